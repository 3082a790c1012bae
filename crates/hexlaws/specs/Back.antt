-- What reading gives back of what was written: "which bytes are marked, and each of them".
use Rattle.std.specs.Prelude.{ℕ, cond, List, [], ◌∷◌, eqb}
use Rattle.fields.specs.Overlay.{overlaid}
use Rattle.hexread.specs.File.{Reading, told}

-- marks as they are written: "0 clear, else set, written 1"
unfoldable pub ones_of : List ℕ → List ℕ
ones_of [] = []
ones_of (m ∷ ms) = cond (eqb m 0) 0 1 ∷ ones_of ms

-- accepted; the marked bytes of one image over the other, which keeps the rest; and their marks
abbrev pub back_of : (image marks other : List ℕ) → Reading
back_of image marks other = told (0 ∷ []) (overlaid other image marks) (ones_of marks)
