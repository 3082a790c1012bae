-- The number, the line, and the line's end.
use Rattle.std.proofs.Common.{◌++◌, ◌∙◌}
use Rattle.text.specs.Lines.{empty_line, named}
use Rattle.text.specs.Text.{codes, line_end}
use Rattle.text.proofs.LineLaws.{onto}
use Rattle.hexverdict.specs.Verdict.{refusal}
use Rattle.hexverdict.proofs.verdict.in_line.Goals as goal

pub returns : goal.returns
returns c =
    let number = refusal c.args.number in
    let line = named (codes "line") c.args.line in
    let begun = c.named.ensures ∙ onto empty_line number line c.begun.ensures in
    c.text.ensures ∙ onto empty_line (number ++ line) line_end begun
