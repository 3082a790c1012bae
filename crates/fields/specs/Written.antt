-- A text written into a lent buffer.
use Rattle.std.specs.Prelude.{ℕ, cond, List, [], ◌∷◌, ◌++◌, ltb, length, drop}

-- the paper's number and its values, and the buffer afterwards
pub record Written : Type 0 where
  pub answer : List ℕ
  pub buffer : List ℕ

abbrev pub told : List ℕ → List ℕ → Written
told answer buffer = record { answer = answer; buffer = buffer }

-- "14 writes nothing, an accepted text only its own bytes"
abbrev pub written : List ℕ → List ℕ → Written
written text buffer =
    cond (ltb (length buffer) (length text))
    (told (14 ∷ length text ∷ []) buffer)
    (told (0 ∷ length text ∷ []) (text ++ drop (length text) buffer))
