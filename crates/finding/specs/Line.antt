-- "a line for each instruction that is not in plain spelling, its address, its bytes and the plain ones, `0x03 0D F1 plain 0D 01`"
use Rattle.std.specs.Prelude.{ℕ, cond, List, [], ◌∷◌, ◌++◌}
use Rattle.digits.specs.Digit.{pair_of}
use Rattle.text.specs.Text.{codes, line_end}
use Rattle.front.specs.Line.{byte_text, spaced}
use Rattle.finding.specs.Found.{Found}

-- the bytes as two upper-case digits each
unfoldable pub line_of : ℕ → List ℕ → List ℕ → List ℕ
line_of address bytes plainly = byte_text address ++ spaced pair_of bytes ++ codes " plain" ++ spaced pair_of plainly ++ line_end

abbrev pub lines_of : List Found → List ℕ
lines_of [] = []
lines_of (f ∷ fs) = cond f.is_plain [] (line_of f.address f.bytes f.plainly) ++ lines_of fs
