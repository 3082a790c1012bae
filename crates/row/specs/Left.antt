-- The lines that the walk through a program has still to come to.
use Rattle.std.specs.Prelude.{ℕ, ◌+◌, List, take, drop}
use Rattle.text.specs.declared.line.Line.{Line}
use Rattle.front.specs.Listed.{lines_of}
use Rattle.row.specs.declared.rows.Rows.{Rows}

-- the text that stands on a line
abbrev pub text_of : Line → List ℕ
text_of line = take line.length line.bytes

abbrev pub lines_left : Rows → List (List ℕ)
lines_left r = lines_of (drop r.at r.program.now) (r.start + r.at)
