-- The marked bytes of an image over others: "0 clear, else set".
use Rattle.std.specs.Prelude.{ℕ, cond, List, [], ◌∷◌, eqb}

unfoldable pub overlaid : List ℕ → List ℕ → List ℕ → List ℕ
overlaid [] image marks = []
overlaid (x ∷ xs) [] marks = x ∷ xs
overlaid (x ∷ xs) (b ∷ bs) [] = x ∷ xs
overlaid (x ∷ xs) (b ∷ bs) (m ∷ ms) = cond (eqb m 0) x b ∷ overlaid xs bs ms
