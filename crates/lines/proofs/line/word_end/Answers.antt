-- The place of the first blank, or the length where there is none.
use Rattle.std.proofs.Common.{◌∙◌}
use Rattle.lines.proofs.LineLaws.{word_end_found}
use Rattle.lines.proofs.line.word_end.Goals as goal

pub returns-clause-value : goal.returns-clause-value
returns-clause-value c = c.unwrap_or.ensures ∙ rw c.first_blank.ensures.value (word_end_found c.args.text.now)
