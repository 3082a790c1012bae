-- The lines of a listing, joined, are its text.
use mathlib.Core.Path.{◌≡◌, refl, ap}
use mathlib.Core.List.{List, [], ◌∷◌, ◌++◌}
use Prim.Native.Nat.{ℕ, zero, suc, ◌+◌, ◌-◌}
use Rattle.front.specs.Front.{front_of, size_of}
use Rattle.front.specs.Line.{line_at}
use Rattle.front.specs.Listed.{lines_of, listed}
use Rattle.front.specs.Walk.{walked}

abbrev pub joined : List (List ℕ) → List ℕ
joined [] = []
joined (line ∷ lines) = line ++ joined lines

joined_walk :
    (passed address : ℕ) (bytes : List ℕ) →
    joined (walked (λ a bs. line_at a bs ∷ []) passed address bytes) ≡ walked line_at passed address bytes
unfolding walked
joined_walk passed address [] = refl
joined_walk (suc passed) address (b ∷ bs) = joined_walk passed (address + 1) bs
joined_walk zero address (b ∷ bs) =
    ap (λ rest. line_at address (b ∷ bs) ++ rest) (joined_walk (size_of (front_of (b ∷ bs)) - 1) (address + 1) bs)

pub joined_lines : (program : List ℕ) (start : ℕ) → joined (lines_of program start) ≡ listed program start
joined_lines program start = joined_walk 0 start program
