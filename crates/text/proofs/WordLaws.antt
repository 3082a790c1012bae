-- Words: bytes above a bound, before a byte that is not. Equal texts begin with equal words, and go on alike.
use mathlib.Core.Path.{◌≡◌, refl, ap}
use mathlib.Core.Bool.{Bool, true, false, cond, ◌&&◌, and-eq-true_iff}
use mathlib.Core.List.{List, [], ◌∷◌, ◌++◌}
use Prim.Native.Nat.{ℕ, zero, suc, ◌/◌, ◌≤◌, ◌<◌}
use native.Mathlib.Omega.{arith}
use borrow.Author.Tests.{ltb-true}
use lib.Dec.{eqb, ltb}
use lib.ListN.{get_or, drop}
use Rattle.text.specs.Decimal.{decimal, digits_of, last_digit}

abbrev pub Above : ℕ → List ℕ → Type 0
Above k [] = Unit {0}
Above k (b ∷ bs) = (k < b) × Above k bs

-- the same as a test, for texts that the checker computes
abbrev pub all_above : ℕ → List ℕ → Bool
all_above k [] = true
all_above k (b ∷ bs) = ltb k b && all_above k bs

pub above_tested : (k : ℕ) (s : List ℕ) → all_above k s ≡ true → Above k s
above_tested k [] e = tt
above_tested k (b ∷ bs) e =
    let parts = (and-eq-true_iff (ltb k b) (all_above k bs)).0 e in
    (ltb-true k b parts.0, above_tested k bs parts.1)

pub above_append : (k : ℕ) (s t : List ℕ) → Above k s → Above k t → Above k (s ++ t)
above_append k [] t is are = are
above_append k (b ∷ s) t is are = (is.0, above_append k s t is.1 are)

pub above_less : (j k : ℕ) (s : List ℕ) → j ≤ k → Above k s → Above j s
above_less j k [] h is = tt
above_less j k (b ∷ s) h is = (omega (arith, is.0), above_less j k s h is.1)

-- what follows a word is nothing, or begins with a byte that is not above the bound
pub word_told :
    (k : ℕ) (v w s t : List ℕ) → Above k v → Above k w → get_or s 0 0 ≤ k → get_or t 0 0 ≤ k →
    v ++ s ≡ w ++ t → (v ≡ w) × (s ≡ t)
word_told k [] [] s t is are low under e = (refl, e)
word_told k [] (c ∷ w) s t is are low under e = absurd (omega (arith, are.0, ap (λ l. get_or l 0 0) e))
word_told k (b ∷ v) [] s t is are low under e = absurd (omega (arith, is.0, ap (λ l. get_or l 0 0) e))
word_told k (b ∷ v) (c ∷ w) s t is are low under e =
    let first : b ≡ c = ap (λ l. get_or l 0 0) e in
    let rest = word_told k v w s t is.1 are.1 low under (ap (drop 1) e) in
    (cc (first, rest.0), rest.1)

-- the digits of a number are a word
digits_above : (k n : ℕ) → Above 47 (digits_of k n)
unfolding digits_of
digits_above zero n = tt
digits_above (suc k) n = by (eqb n 0) (digits_above k (n / 10))
  where
    by : (none : Bool) → Above 47 (digits_of k (n / 10)) → Above 47 (cond none [] (digits_of k (n / 10) ++ (last_digit n ∷ [])))
    by true before = tt
    by false before = above_append 47 (digits_of k (n / 10)) (last_digit n ∷ []) before (omega arith, tt)

pub decimal_above : (n : ℕ) → Above 47 (decimal n)
unfolding decimal
decimal_above n = above_append 47 (digits_of 19 (n / 10)) (last_digit n ∷ []) (digits_above 19 (n / 10)) (omega arith, tt)
