-- Laws of where two lists part: lists of one length that are alike to their end are one list, and what begins alike.
use mathlib.Core.Path.{◌≡◌, refl, sym, ◌∙◌}
use mathlib.Core.Bool.{Bool, true, false, cond, ◌&&◌}
use mathlib.Core.List.{List, [], ◌∷◌, ◌++◌}
use Prim.Native.Nat.{ℕ, suc, ◌+◌, ◌≤◌, ◌<◌}
use native.Mathlib.Omega.{arith}
use lib.Dec.{eqb}
use lib.ListN.{length, length-drop, get_or, take, drop, drop_of_length-le}
use borrow.Author.Tests.{eqb-true, eq-eqb, ne_eqb}
use Rattle.std.specs.List.{starts_with}
use Rattle.std.specs.Cmp.Lexicographic.{pointwise}
use Rattle.std.proofs.lemmas.List.Sums.{common_prefix_len-le, common_prefix_len-drop_no, common_prefix_len-drop_yes}
use Rattle.fields.specs.Apart.{alike}

pub alike_most : (a b : List ℕ) → alike a b ≤ length a
alike_most a b = (common_prefix_len-le eqb a b).0

-- what the test and the rest come to, where the count goes on
went_on : (t : Bool) (m n : ℕ) → cond t (1 + m) 0 ≡ suc n → (t ≡ true) × (m ≡ n)
went_on true m n e = (refl, omega arith)
went_on false m n e = absurd (omega arith)

pub alike_whole : (a b : List ℕ) → alike a b ≡ length a → length a ≡ length b → a ≡ b
alike_whole [] [] e l = refl
alike_whole [] (y ∷ ys) e l = absurd (omega arith)
alike_whole (x ∷ xs) [] e l = absurd (omega arith)
alike_whole (x ∷ xs) (y ∷ ys) e l =
    let both = went_on (eqb x y) (alike xs ys) (length xs) e in
    cc (eqb-true x y both.0, alike_whole xs ys both.1 (omega arith))

-- a list is alike to its end with what begins with it, and with nothing else
pub alike_front : (a b : List ℕ) → alike a (a ++ b) ≡ length a
alike_front [] b = refl
alike_front (x ∷ a) b = rw (eq-eqb x x refl) (omega (arith, alike_front a b))

pub alike_taken : (a b : List ℕ) → alike a b ≡ length a → a ≡ take (length a) b
alike_taken [] b e = refl
alike_taken (x ∷ xs) [] e = absurd (omega arith)
alike_taken (x ∷ xs) (y ∷ ys) e =
    let both = went_on (eqb x y) (alike xs ys) (length xs) e in
    cc (eqb-true x y both.0, alike_taken xs ys both.1)

one_more : (m n : ℕ) → eqb m n ≡ eqb (1 + m) (suc n)
one_more m n = by (eqb m n) refl
  where
    by : (b : Bool) → eqb m n ≡ b → b ≡ eqb (1 + m) (suc n)
    by true e = sym (eq-eqb _ _ (omega (arith, eqb-true m n e)))
    by false e = sym (ne_eqb _ _ (λ h. let same : m ≡ n = omega arith in cc (eq-eqb m n same, e)))

-- a list begins with another where they are alike to its end
pub starts_alike : (a b : List ℕ) → starts_with eqb b a ≡ eqb (alike a b) (length a)
starts_alike [] b = refl
starts_alike (x ∷ xs) [] = sym (ne_eqb 0 (suc (length xs)) (λ e. omega arith))
starts_alike (x ∷ xs) (y ∷ ys) = by (eqb x y) (starts_alike xs ys)
  where
    by :
        (same : Bool) → pointwise eqb xs (take (length xs) ys) ≡ eqb (alike xs ys) (length xs) →
        (same && pointwise eqb xs (take (length xs) ys)) ≡ eqb (cond same (1 + alike xs ys) 0) (suc (length xs))
    by true rest = rest ∙ one_more (alike xs ys) (length xs)
    by false rest = sym (ne_eqb 0 (suc (length xs)) (λ e. omega arith))

-- Laws that stand for themselves. Up to i the lists are alike.
pub record Along (a b : List ℕ) (i : ℕ) : Type 0 where
  pub first : i ≤ length a
  pub second : i ≤ length b
  pub count : alike a b ≡ i + alike (drop i a) (drop i b)

-- where the two part, within both
abbrev pub Parted : List ℕ → List ℕ → ℕ → Type 0
Parted a b i = (i ≡ alike a b) × ((i ≤ length a) × (i ≤ length b))

pub begun : (a b : List ℕ) → Along a b 0
begun a b = record { first = omega arith; second = omega arith; count = omega arith }

module _ {a b : List ℕ} {i : ℕ} (along : Along a b i) where
  stopped : alike (drop i a) (drop i b) ≡ 0 → Parted a b i
  stopped none = (omega arith, (along.first, along.second))

  pub first_ended : length a ≤ i → Parted a b i
  first_ended h = stopped (rw (drop_of_length-le a h))

  pub second_ended : length b ≤ i → Parted a b i
  second_ended h = stopped (omega (arith, (common_prefix_len-le eqb (drop i a) (drop i b)).1, length-drop i b))

  module _ (ha : i < length a) (hb : i < length b) where
    pub differs : (get_or a i 0 ≡ get_or b i 0 → ⊥) → Parted a b i
    differs apart = stopped (common_prefix_len-drop_no eqb a b i 0 0 ha hb (ne_eqb (get_or a i 0) (get_or b i 0) apart))

    pub onward : get_or a i 0 ≡ get_or b i 0 → Along a b (i + 1)
    onward same =
        let step = common_prefix_len-drop_yes eqb a b i 0 0 ha hb (eq-eqb (get_or a i 0) (get_or b i 0) same) in
        record { first = omega arith; second = omega arith; count = omega (arith, along.count, step) }
