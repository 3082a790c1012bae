-- Laws of the marked bytes of an image over others: there are as many as there were, and what each turn of the code does.
use mathlib.Core.Path.{◌≡◌, refl, ap}
use mathlib.Core.Bool.{cond}
use mathlib.Core.List.{List, [], ◌∷◌, ◌++◌}
use Prim.Native.Nat.{ℕ, suc, ◌+◌, ◌≤◌, ◌<◌}
use native.Mathlib.Numerals.{add-one}
use native.Mathlib.Omega.{arith}
use lib.Dec.{eqb}
use lib.ListN.{length, get_or, set, take, drop, drop_of_length-le, take-append-drop}
use lib.Seq.{append_snoc, drop-cons, drop-set-lt, set-get_or, take-suc-set}
use borrow.Author.Tests.{eq-eqb, ne_eqb}
use Rattle.fields.specs.Overlay.{overlaid}

pub overlaid_length : (xs image marks : List ℕ) → length (overlaid xs image marks) ≡ length xs
unfolding overlaid
overlaid_length [] image marks = refl
overlaid_length (x ∷ xs) [] marks = refl
overlaid_length (x ∷ xs) (b ∷ bs) [] = refl
overlaid_length (x ∷ xs) (b ∷ bs) (m ∷ ms) = ap suc (overlaid_length xs bs ms)

image_none : (xs marks : List ℕ) → overlaid xs [] marks ≡ xs
unfolding overlaid
image_none [] marks = refl
image_none (x ∷ xs) marks = refl

marks_none : (xs image : List ℕ) → overlaid xs image [] ≡ xs
unfolding overlaid
marks_none [] image = refl
marks_none (x ∷ xs) [] = refl
marks_none (x ∷ xs) (b ∷ bs) = refl

-- the first i bytes as they are, and what is left to lay over the rest
abbrev pub laid_from : ℕ → List ℕ → List ℕ → List ℕ → List ℕ
laid_from i xs image marks = take i xs ++ overlaid (drop i xs) (drop i image) (drop i marks)

module _ (xs image marks : List ℕ) (i : ℕ) where
  kept : overlaid (drop i xs) (drop i image) (drop i marks) ≡ drop i xs → laid_from i xs image marks ≡ xs
  kept e = rw e (take-append-drop i xs)

  pub bytes_ended : length xs ≤ i → laid_from i xs image marks ≡ xs
  unfolding overlaid
  bytes_ended h = kept (rw (drop_of_length-le xs h))

  pub image_ended : length image ≤ i → laid_from i xs image marks ≡ xs
  image_ended h = kept (rw (drop_of_length-le image h) (image_none (drop i xs) (drop i marks)))

  pub marks_ended : length marks ≤ i → laid_from i xs image marks ≡ xs
  marks_ended h = kept (rw (drop_of_length-le marks h) (marks_none (drop i xs) (drop i image)))

  module _ (hx : i < length xs) (hb : i < length image) (hm : i < length marks) where
    -- once the byte at i is laid, the rest is left to lay from the next place on
    turn :
        (v : ℕ) → cond (eqb (get_or marks i 0) 0) (get_or xs i 0) (get_or image i 0) ≡ v →
        laid_from (i + 1) (set xs i v) image marks ≡ laid_from i xs image marks
    unfolding overlaid
    turn v e =
        rw (
          add-one i,
          take-suc-set xs i v hx,
          drop-set-lt (suc i) xs i v (omega arith),
          drop-cons xs i 0 hx,
          drop-cons image i 0 hb,
          drop-cons marks i 0 hm,
          e,
          append_snoc (take i xs) v _,
        )

    pub marked : (get_or marks i 0 ≡ 0 → ⊥) → laid_from (i + 1) (set xs i (get_or image i 0)) image marks ≡ laid_from i xs image marks
    marked some = turn (get_or image i 0) (rw (ne_eqb (get_or marks i 0) 0 some))

    pub unmarked : get_or marks i 0 ≡ 0 → laid_from (i + 1) xs image marks ≡ laid_from i xs image marks
    unmarked none = rw (set-get_or xs i 0) at (turn (get_or xs i 0) (rw (eq-eqb (get_or marks i 0) 0 none)))

pub ruleset overlay_laws = (bytes_ended, image_ended, marks_ended)
