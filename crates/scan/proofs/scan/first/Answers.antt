-- Where `position` finds a byte, and where it finds none.
use Rattle.std.proofs.Common.{rules, ◌∙◌}
use Rattle.scan.proofs.ScanLaws.{first_found}
use Rattle.scan.proofs.scan.first.Goals as goal

pub returns-clause-value : goal.returns-clause-value
returns-clause-value c =
    c.unwrap_or.ensures ∙ first_found c.args.class c.args.text.now c.position.result (search rules)
