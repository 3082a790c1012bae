-- "Listing of a program at a start address": its lines, one after the other.
use Rattle.std.specs.Prelude.{ℕ, List, [], ◌∷◌}
use Rattle.front.specs.Line.{line_at}
use Rattle.front.specs.Walk.{walked}

-- as one text
abbrev pub listed : List ℕ → ℕ → List ℕ
listed program start = walked line_at 0 start program

-- and each by itself
abbrev pub lines_of : List ℕ → ℕ → List (List ℕ)
lines_of program start = walked (λ address bytes. line_at address bytes ∷ []) 0 start program
