-- "walks a rule from 0 as the listing does and prints a line for each instruction that is not in plain spelling .., then `plain N of M`"
use Rattle.std.specs.Prelude.{ℕ, cond, List, [], ◌∷◌, ◌++◌, ltb, length}
use Rattle.fields.specs.Written.{Written, told, written}
use Rattle.text.specs.Decimal.{decimal}
use Rattle.text.specs.Text.{codes, line_end}
use Rattle.front.specs.Walk.{walked}
use Rattle.finding.specs.Found.{Found, found_at, plain_in}
use Rattle.finding.specs.Line.{lines_of}

-- the instructions that the walk comes to
abbrev pub found : List ℕ → List Found
found rule = walked found_at 0 0 rule

-- of all instructions that there are, how many are in plain spelling
unfoldable pub counts_of : ℕ → ℕ → List ℕ
counts_of plain all = codes "plain " ++ decimal plain ++ codes " of " ++ decimal all ++ line_end

abbrev pub checked : List Found → List ℕ
checked fs = lines_of fs ++ counts_of (plain_in fs) (length fs)

-- "11: start + length above 256", with length and start, which is 0; "11 precedes 14"
unfoldable pub check_of : List ℕ → List ℕ → Written
check_of rule buffer =
    cond (ltb 256 (length rule)) (told (11 ∷ length rule ∷ 0 ∷ []) buffer) (written (checked (found rule)) buffer)
