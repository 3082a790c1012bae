-- What each turn of writing a number does: its digits come last first. And how many digits there can be.
use mathlib.Core.Path.{◌≡◌, refl, sym, ◌∙◌, ap}
use mathlib.Core.Logic.{◌≢◌}
use mathlib.Core.Bool.{Bool, true, false, cond}
use mathlib.Core.List.{List, [], ◌∷◌, ◌++◌, append_assoc}
use Prim.Native.Nat.{ℕ, zero, suc, ◌+◌, ◌-◌, ◌/◌, ◌%◌, ◌^◌, ◌≤◌, ◌<◌}
use native.Mathlib.Nat.{le_of_suc-le-suc, pow-zero, pow-suc}
use native.Mathlib.Omega.{arith}
use borrow.Author.Tests.{ne_eqb}
use lib.Dec.{eqb}
use lib.ListN.{length, set, drop}
use Rattle.text.specs.Decimal.{last_digit, digits_of, decimal}

-- the digits of what is left of a number, before those that stand already: how the code comes by them
unfoldable pub digits_before : ℕ → ℕ → List ℕ → List ℕ
digits_before zero n digits = digits
digits_before (suc k) n digits = cond (eqb n 0) digits (digits_before k (n / 10) (last_digit n ∷ digits))

digits_front : (k n : ℕ) (digits : List ℕ) → digits_before k n digits ≡ digits_of k n ++ digits
unfolding digits_before digits_of
digits_front zero n digits = refl
digits_front (suc k) n digits =
    by_rest (eqb n 0) (digits_of k (n / 10)) (digits_front k (n / 10) (last_digit n ∷ digits))
  where
    by_rest :
        (b : Bool) (front : List ℕ) {rest : List ℕ} → rest ≡ front ++ (last_digit n ∷ digits) →
        cond b digits rest ≡ cond b [] (front ++ (last_digit n ∷ [])) ++ digits
    by_rest true front e = refl
    by_rest false front e = e ∙ sym (append_assoc front (last_digit n ∷ []) digits)

pub decimal_before : (n : ℕ) → decimal n ≡ digits_before 19 (n / 10) (last_digit n ∷ [])
unfolding decimal
decimal_before n = sym (digits_front 19 (n / 10) (last_digit n ∷ []))

-- nothing is left
pub digits_none : (k : ℕ) (digits : List ℕ) → digits_before k 0 digits ≡ digits
unfolding digits_before
digits_none zero digits = refl
digits_none (suc k) digits = refl

-- a place written just before those behind it
written_before : (l : List ℕ) (i v : ℕ) → i < length l → drop i (set l i v) ≡ v ∷ drop (suc i) l
written_before [] i v h = absurd (omega arith)
written_before (x ∷ xs) zero v h = refl
written_before (x ∷ xs) (suc i) v h = written_before xs i v (le_of_suc-le-suc h)

pub digits_more :
    (k n : ℕ) (digits : List ℕ) → n ≢ 0 →
    digits_before (suc k) n digits ≡ digits_before k (n / 10) ((48 + n % 10) ∷ digits)
unfolding digits_before
digits_more k n digits more = rw (ne_eqb _ _ more)

-- while something is left there is a place for its last digit, and room for the rest
pub room_less : (at n : ℕ) → 0 < n → n < 10 ^ at → (0 < at) × (n / 10 < 10 ^ (at - 1))
room_less zero n some room = absurd (omega (arith, pow-zero 10))
room_less (suc a) n some room =
    let less : suc a - 1 ≡ a = omega arith in (omega arith, rw less (omega (arith, pow-suc 10 a)))

pub digits_turn :
    (l : List ℕ) (at n : ℕ) → 0 < at → at ≤ length l → n ≢ 0 →
    digits_before (at - 1) (n / 10) (drop (at - 1) (set l (at - 1) (48 + n % 10))) ≡ digits_before at n (drop at l)
digits_turn l zero n some within more = absurd (omega arith)
digits_turn l (suc a) n some within more =
    let less : suc a - 1 ≡ a = omega arith in
    rw (less)
    (ap (digits_before a (n / 10)) (written_before l a (48 + n % 10) within) ∙ sym (digits_more a n (drop (suc a) l) more))

-- a number below ten to the k puts at most k digits before those behind it
before_few :
    (m k n : ℕ) (digits : List ℕ) → n < 10 ^ k → length (digits_before m n digits) ≤ k + length digits
unfolding digits_before
before_few zero k n digits h = omega arith
before_few (suc m) k zero digits h = omega arith
before_few (suc m) zero (suc n) digits h = absurd (omega (arith, pow-zero 10))
before_few (suc m) (suc k) (suc n) digits h =
    let less : suc n / 10 < 10 ^ k = omega (arith, pow-suc 10 k) in
    let rest = before_few m k (suc n / 10) ((48 + suc n % 10) ∷ digits) less in
    omega (arith, ap length (digits_more m (suc n) digits (λ e. omega arith)))

-- the last digit always stands, so a number below ten to the k + 1 has at most that many
pub few_digits : (k n : ℕ) → n < 10 ^ suc k → length (decimal n) ≤ suc k
few_digits k n h =
    let less : n / 10 < 10 ^ k = omega (arith, pow-suc 10 k) in
    let rest = before_few 19 k (n / 10) (last_digit n ∷ []) less in
    omega (arith, ap length (decimal_before n))
