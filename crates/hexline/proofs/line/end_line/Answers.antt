-- The words are those of the definition, computed.
use Rattle.hexline.specs.Line.{line_of}
use Rattle.hexline.specs.Spelling.{digits_of}
use Rattle.hexline.proofs.line.end_line.Goals as goal

pub returns : goal.returns
unfolding line_of digits_of
returns c = rw (c.text.ensures, c.empty.ensures)
