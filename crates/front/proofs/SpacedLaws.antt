-- Laws of bytes behind spaces, whatever the text of a byte: what each turn of a loop says, and how long they are.
use mathlib.Core.Path.{◌≡◌}
use mathlib.Core.List.{List, [], ◌∷◌, ◌++◌}
use Prim.Native.Nat.{ℕ, ◌+◌, ◌*◌, ◌<◌}
use native.Mathlib.Numerals.{add-one}
use native.Mathlib.Omega.{arith}
use lib.ListN.{length, length-append, get_or, drop}
use lib.Seq.{drop-cons}
use Rattle.front.specs.Line.{spaced, then}

module _ (text : ℕ → List ℕ) where
  pub spaced_next :
      (bytes : List ℕ) (at : ℕ) → at < length bytes →
      spaced text (drop at bytes) ≡ then (text (get_or bytes at 0)) ++ spaced text (drop (at + 1) bytes)
  spaced_next bytes at h = rw (add-one at, drop-cons bytes at 0 h)

  -- a space and the text for each
  pub spaced_length :
      (width : ℕ) → ((b : ℕ) → length (text b) ≡ width) → (bytes : List ℕ) → length (spaced text bytes) ≡ length bytes * (1 + width)
  spaced_length width each [] = omega arith
  spaced_length width each (b ∷ bs) =
      omega (arith, length-append (then (text b)) (spaced text bs), each b, spaced_length width each bs)
