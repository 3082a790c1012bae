-- The four pieces, put one after the other, are their text put at once.
use Rattle.std.proofs.Common.{◌∙◌, ◌++◌}
use Rattle.text.specs.Decimal.{decimal}
use Rattle.text.specs.Text.{codes}
use Rattle.text.proofs.LineLaws.{onto}
use Rattle.text.proofs.line.Line.named.Goals as goal

pub returns : goal.returns
returns c =
    let name = c.args.name.now in
    let space = codes " " in
    let two = c.text-2.ensures ∙ onto c.args.self space name c.text.ensures in
    let three = c.text-3.ensures ∙ onto c.args.self (space ++ name) space two in
    c.decimal.ensures ∙ onto c.args.self (space ++ name ++ space) (decimal c.args.number) three
