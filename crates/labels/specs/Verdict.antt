-- A refused source in words: `refused 15`, or `refused 17 3` with the line.
use Rattle.std.specs.Prelude.{ℕ, List, [], ◌∷◌, ◌++◌}
use Rattle.text.specs.Decimal.{decimal}
use Rattle.text.specs.Text.{codes, line_end}

-- "parted by one space"
abbrev pub numbers : List ℕ → List ℕ
numbers [] = []
numbers (n ∷ ns) = codes " " ++ decimal n ++ numbers ns

unfoldable pub verdict_of : List ℕ → List ℕ
verdict_of answer = codes "refused" ++ numbers answer ++ line_end
