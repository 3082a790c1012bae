-- The number, and the line's end.
use Rattle.std.proofs.Common.{◌∙◌}
use Rattle.text.specs.Lines.{empty_line}
use Rattle.text.specs.Text.{line_end}
use Rattle.text.proofs.LineLaws.{onto}
use Rattle.hexverdict.specs.Verdict.{refusal}
use Rattle.hexverdict.proofs.verdict.whole.Goals as goal

pub returns : goal.returns
returns c = c.text.ensures ∙ onto empty_line (refusal c.args.number) line_end c.begun.ensures
