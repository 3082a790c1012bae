-- What each turn of reading a number does.
use mathlib.Core.Path.{◌≡◌, refl}
use mathlib.Core.Logic.{◌≢◌}
use mathlib.Core.List.{List, [], ◌∷◌}
use Prim.Native.Nat.{ℕ, ◌+◌, ◌*◌, ◌-◌, ◌≤◌, ◌<◌}
use native.Mathlib.Numerals.{add-one}
use native.Mathlib.Omega.{arith}
use borrow.Author.Tests.{lt-leb, le-leb, eq-eqb, ne_eqb}
use lib.ListN.{length, get_or, drop, drop_of_length-le}
use lib.Seq.{drop-cons}
use Rattle.std.specs.Prelude.{Some, None}
use Rattle.text.specs.Decimal.{value_from, numeral}

module _ (text : List ℕ) (v i : ℕ) (h : i < length text) where
  pub value_digit :
      48 ≤ get_or text i 0 → get_or text i 0 ≤ 57 → v * 10 + (get_or text i 0 - 48) ≤ 65535 →
      value_from v (drop i text) ≡ value_from (v * 10 + (get_or text i 0 - 48)) (drop (i + 1) text)
  unfolding value_from
  value_digit low high few = rw (add-one i, drop-cons text i 0 h, le-leb _ _ low, le-leb _ _ high, le-leb _ _ few)

  pub value_low : get_or text i 0 < 48 → value_from v (drop i text) ≡ None
  unfolding value_from
  value_low low = rw (drop-cons text i 0 h, lt-leb _ _ low)

  pub value_high : 57 < get_or text i 0 → value_from v (drop i text) ≡ None
  unfolding value_from
  value_high high =
      let low : 48 ≤ get_or text i 0 = omega arith in
      rw (drop-cons text i 0 h, le-leb _ _ low, lt-leb _ _ high)

  pub value_much :
      48 ≤ get_or text i 0 → get_or text i 0 ≤ 57 → 65535 < v * 10 + (get_or text i 0 - 48) →
      value_from v (drop i text) ≡ None
  unfolding value_from
  value_much low high many = rw (drop-cons text i 0 h, le-leb _ _ low, le-leb _ _ high, lt-leb _ _ many)

-- no byte is left
pub value_end : (text : List ℕ) (v i : ℕ) → length text ≤ i → value_from v (drop i text) ≡ Some v
unfolding value_from
value_end text v i h = rw (drop_of_length-le text h)

pub numeral_none : (text : List ℕ) → length text ≡ 0 → numeral text ≡ None
unfolding numeral
numeral_none [] h = refl
numeral_none (c ∷ cs) h = absurd (omega arith)

pub numeral_zero : (text : List ℕ) → 1 < length text → get_or text 0 0 ≡ 48 → numeral text ≡ None
unfolding numeral
numeral_zero [] h zero = absurd (omega arith)
numeral_zero (c ∷ []) h zero = absurd (omega arith)
numeral_zero (c ∷ d ∷ cs) h zero = rw (eq-eqb _ _ zero)

pub numeral_one : (text : List ℕ) → length text ≡ 1 → numeral text ≡ value_from 0 text
unfolding numeral
numeral_one [] one = absurd (omega arith)
numeral_one (c ∷ []) one = refl
numeral_one (c ∷ d ∷ cs) one = absurd (omega arith)

pub numeral_more : (text : List ℕ) → 1 < length text → get_or text 0 0 ≢ 48 → numeral text ≡ value_from 0 text
unfolding numeral
numeral_more [] h other = absurd (omega arith)
numeral_more (c ∷ []) h other = absurd (omega arith)
numeral_more (c ∷ d ∷ cs) h other = rw (ne_eqb _ _ other)

-- what the tests of a text's beginning say, and what each turn of its digits does
pub ruleset number_laws = (numeral_none, numeral_zero, numeral_one, numeral_more)

pub ruleset digit_laws = (value_digit, value_low, value_high, value_much, value_end)
