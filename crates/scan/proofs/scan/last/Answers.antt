-- Behind the byte that `rposition` finds none is of the class.
use Rattle.std.proofs.Common.{rules, sym}
use Rattle.scan.proofs.ScanLaws.{last_here}
use Rattle.scan.proofs.scan.last.Goals as goal

pub returns-in-Some-clause-value : goal.returns-in-Some-clause-value
returns-in-Some-clause-value c =
    sym
    (last_here c.args.class c.args.text.now c.in-Some.at (search rules) (search rules) (λ k behind within. search rules))
