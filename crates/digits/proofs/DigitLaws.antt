-- A digit that is written is read as its value, and lies behind the blanks and line ends; so two digits tell a byte.
use mathlib.Core.Path.{◌≡◌, refl, sym, ◌∙◌, ap}
use mathlib.Core.Bool.{Bool, true, false, cond}
use Prim.Native.Nat.{ℕ, ◌+◌, ◌-◌, ◌/◌, ◌%◌, ◌≤◌, ◌<◌}
use native.Mathlib.Omega.{arith}
use borrow.Author.Tests.{le-leb, lt-leb, ltb-true, ltb-false}
use lib.Dec.{ltb}
use lib.ListN.{get_or}
use Rattle.digits.specs.Digit.{digit_of, pair_of, upper_of}

pub digit_high : (d : ℕ) → 48 ≤ upper_of d
digit_high d = by (ltb d 10)
  where
    by : (b : Bool) → 48 ≤ cond b (48 + d) (65 + (d - 10))
    by true = omega arith
    by false = omega arith

pub digit_back : (d : ℕ) → d < 16 → digit_of (upper_of d) ≡ d
unfolding digit_of
digit_back d low = by (ltb d 10) refl
  where
    by : (b : Bool) → ltb d 10 ≡ b → digit_of (cond b (48 + d) (65 + (d - 10))) ≡ d
    by true small =
        let less = ltb-true d 10 small in
        rw (le-leb 48 (48 + d) (omega arith), le-leb (48 + d) 57 (omega arith)) (omega arith)
    by false large =
        let more = ltb-false d 10 large in
        let c = 65 + (d - 10) in
        rw (lt-leb c 57 (omega arith), le-leb 48 c (omega arith), le-leb 65 c (omega arith), le-leb c 70 (omega arith))
        (omega arith)

-- digits that are written alike have one value
digit_injective : (c d : ℕ) → c < 16 → d < 16 → upper_of c ≡ upper_of d → c ≡ d
digit_injective c d h k e = sym (digit_back c h) ∙ ap digit_of e ∙ digit_back d k

pub pair_injective : (b c : ℕ) → b < 256 → c < 256 → pair_of b ≡ pair_of c → b ≡ c
pair_injective b c h k e =
    let high = digit_injective (b / 16) (c / 16) (omega arith) (omega arith) (ap (λ l. get_or l 0 0) e) in
    let low = digit_injective (b % 16) (c % 16) (omega arith) (omega arith) (ap (λ l. get_or l 1 0) e) in
    omega (arith, high, low)
