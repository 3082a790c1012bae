-- Reading undoes writing: the digits that are written for a number are read as that number.
use mathlib.Core.Path.{◌≡◌, refl, ◌∙◌, ap}
use mathlib.Core.Logic.{◌≢◌}
use mathlib.Core.List.{List, [], ◌∷◌}
use Prim.Native.Nat.{ℕ, zero, suc, ◌+◌, ◌*◌, ◌-◌, ◌/◌, ◌%◌, ◌^◌, ◌≤◌, ◌<◌}
use native.Mathlib.Nat.{pow-zero, pow-suc}
use native.Mathlib.Omega.{arith}
use borrow.Author.Tests.{le-leb, ne_eqb}
use Rattle.std.specs.Prelude.{Some}
use Rattle.text.specs.Decimal.{decimal, value_from, numeral}
use Rattle.text.proofs.DecimalLaws.{digits_before, decimal_before, digits_none, digits_more}

-- the last digit, behind the value of those before it
digit_read : (n : ℕ) (digits : List ℕ) → n ≤ 65535 → value_from (n / 10) ((48 + n % 10) ∷ digits) ≡ value_from n digits
unfolding value_from
digit_read n digits h =
    let low : 48 ≤ 48 + n % 10 = omega arith in
    let high : 48 + n % 10 ≤ 57 = omega arith in
    let same : n / 10 * 10 + (48 + n % 10 - 48) ≡ n = omega arith in
    rw (same, le-leb _ _ low, le-leb _ _ high, le-leb _ _ h)

-- no 0 leads
leads : (c : ℕ) (digits : List ℕ) → c ≢ 48 → numeral (c ∷ digits) ≡ value_from 0 (c ∷ digits)
unfolding numeral
leads c [] other = refl
leads c (d ∷ digits) other = rw (ne_eqb _ _ other)

-- where nothing is left, what stands already leads
before_read :
    (k n : ℕ) (digits : List ℕ) → n < 10 ^ k → n ≤ 65535 → (n ≡ 0 → numeral digits ≡ value_from 0 digits) →
    numeral (digits_before k n digits) ≡ value_from n digits
before_read zero zero digits few small led = ap numeral (digits_none 0 digits) ∙ led refl
before_read zero (suc n) digits few small led = absurd (omega (arith, pow-zero 10))
before_read (suc k) zero digits few small led = ap numeral (digits_none (suc k) digits) ∙ led refl
before_read (suc k) (suc n) digits few small led =
    let less : suc n / 10 < 10 ^ k = omega (arith, pow-suc 10 k) in
    let first : suc n / 10 ≡ 0 → 48 + suc n % 10 ≢ 48 = λ none e. omega arith in
    ap numeral (digits_more k (suc n) digits (λ e. omega arith)) ∙
    (before_read k (suc n / 10) ((48 + suc n % 10) ∷ digits) less (omega arith) (λ none. leads _ digits (first none)) ∙
    digit_read (suc n) digits small)

pub read_back : (n : ℕ) → n ≤ 65535 → numeral (decimal n) ≡ Some n
unfolding numeral value_from
read_back n h =
    ap numeral (decimal_before n) ∙
    (before_read 19 (n / 10) ((48 + n % 10) ∷ []) (omega arith) (omega arith) (λ none. refl) ∙ digit_read n [] h)

-- so the digits tell the number
pub decimal_injective : (n m : ℕ) → n ≤ 65535 → m ≤ 65535 → decimal n ≡ decimal m → n ≡ m
decimal_injective n m h k e = let same : Some n ≡ Some m = cc (read_back n h, read_back m k, ap numeral e) in cc
