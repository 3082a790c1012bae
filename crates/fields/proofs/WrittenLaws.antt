-- A text that was written stands first in the buffer, as long as the answer says.
use mathlib.Core.Path.{◌≡◌, sym, ap}
use mathlib.Core.Bool.{Bool, true, false, cond}
use mathlib.Core.List.{List, [], ◌∷◌, ◌++◌}
use Prim.Native.Nat.{ℕ}
use native.Mathlib.Omega.{arith}
use lib.Dec.{ltb}
use lib.ListN.{length, get_or, take, drop}
use lib.Seq.{take_at}
use Rattle.fields.specs.Written.{told, written}

pub text_first : (text buffer after : List ℕ) (n : ℕ) → told (0 ∷ n ∷ []) after ≡ written text buffer → take n after ≡ text
text_first text buffer after n e = by (ltb (length buffer) (length text)) e
  where
    by :
        (short : Bool) →
        told (0 ∷ n ∷ []) after
        ≡ cond short (told (14 ∷ length text ∷ []) buffer) (told (0 ∷ length text ∷ []) (text ++ drop (length text) buffer)) →
        take n after ≡ text
    by true e = absurd (omega (arith, ap (λ w. get_or w.answer 0 0) e))
    by false e =
        let size : length text ≡ n = sym (ap (λ w. get_or w.answer 1 0) e) in
        let whole : after ≡ text ++ drop (length text) buffer = ap (λ w. w.buffer) e in
        rw whole (take_at text (drop (length text) buffer) n size)
