-- No operands, no words.
use Rattle.std.proofs.Common.{refl}
use Rattle.text.specs.Lines.{appended}
use Rattle.row.proofs.line.operand_words.Goals as goal

pub returns-in-None : goal.returns-in-None
unfolding appended
returns-in-None c = rw c.in-None.is refl
