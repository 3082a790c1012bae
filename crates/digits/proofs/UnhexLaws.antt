-- What each turn of the reading of digits does.
use mathlib.Core.Path.{◌≡◌}
use mathlib.Core.Bool.{true, false}
use mathlib.Core.List.{List}
use Prim.Native.Nat.{ℕ, ◌+◌, ◌*◌, ◌≤◌, ◌<◌}
use native.Mathlib.Numerals.{add-one}
use native.Mathlib.Omega.{arith}
use lib.ListN.{length, get_or, set, drop, drop_of_length-le}
use lib.Seq.{drop-cons}
use borrow.Author.Tests.{lt-ltb, le-ltb}
use Rattle.std.specs.Prelude.{Option, Some, None, Ok, MatchOption}
use Rattle.digits.specs.Digit.{digit_of}
use Rattle.digits.specs.Unhex.{Told, told, stopped, from, parts}

-- the first digit that waits for its second; 16 where none waits
abbrev pub waiting : Option ℕ → ℕ
waiting None = 16
waiting (Some high) = high

-- before the place i: what is left to read tells all
pub record Reading (text : List ℕ) (all : Told) (buffer : List ℕ) (count : ℕ) (high : Option ℕ) (i : ℕ) : Type 0 where
  pub within : i ≤ length text
  pub waits : MatchOption high (Unit {0}) (λ first. first < 16)
  pub left : from (drop i text) i buffer count (waiting high) ≡ all

module _ {text : List ℕ} {all : Told} {buffer : List ℕ} {count i : ℕ} where
  pub lone : {first : ℕ} → Reading text all buffer count (Some first) i → length text ≤ i → told (stopped (length text)) buffer ≡ all
  unfolding from
  lone {first} at h =
      let end : length text ≡ i = omega (arith, at.within) in
      rw end (rw (drop_of_length-le text h, lt-ltb first 16 at.waits) at at.left)

  pub done : Reading text all buffer count None i → length text ≤ i → told (Ok count) buffer ≡ all
  unfolding from
  done at h = rw (drop_of_length-le text h) at at.left

  -- a second digit, and no room
  pub full :
      {first : ℕ} → i < length text → digit_of (get_or text i 0) < 16 → Reading text all buffer count (Some first) i →
      length buffer ≤ count → told (stopped i) buffer ≡ all
  unfolding from
  full {first} h is at end =
      rw (drop-cons text i 0 h, lt-ltb _ 16 is, lt-ltb first 16 at.waits, le-ltb count (length buffer) end) at at.left

  -- at a byte of the text, of which d is the digit
  module _ (h : i < length text) {d : ℕ} (is : d < 16) (digit : d ≡ digit_of (get_or text i 0)) where
    pub second :
        {first : ℕ} → Reading text all buffer count (Some first) i → count < length buffer →
        Reading text all (set buffer count (first * 16 + d)) (count + 1) None (i + 1)
    unfolding from
    second {first} at room =
        record {
          within = omega arith;
          waits = tt;
          left =
              rw (add-one i)
              (rw
              (drop-cons text i 0 h, ← digit, lt-ltb d 16 is, lt-ltb first 16 at.waits, lt-ltb count (length buffer) room, add-one i)
              at at.left);
        }

    pub first : Reading text all buffer count None i → Reading text all buffer count (Some d) (i + 1)
    unfolding from
    first at =
        record {
          within = omega arith;
          waits = is;
          left = rw (add-one i) (rw (drop-cons text i 0 h, ← digit, lt-ltb d 16 is, add-one i) at at.left);
        }

  -- at a byte that is no digit
  module _ (h : i < length text) (none : digit_of (get_or text i 0) ≡ 16) where
    pub halved : {first : ℕ} → Reading text all buffer count (Some first) i → told (stopped i) buffer ≡ all
    unfolding from
    halved {first} at = rw (drop-cons text i 0 h, none, lt-ltb first 16 at.waits) at at.left

    pub other : Reading text all buffer count None i → parts (get_or text i 0) ≡ false → told (stopped i) buffer ≡ all
    unfolding from
    other at apart = rw (drop-cons text i 0 h, none, apart) at at.left

    pub between :
        Reading text all buffer count None i → parts (get_or text i 0) ≡ true → Reading text all buffer count None (i + 1)
    unfolding from
    between at apart =
        record {
          within = omega arith;
          waits = tt;
          left = rw (add-one i) (rw (drop-cons text i 0 h, none, apart, add-one i) at at.left);
        }

-- what each turn of the code does
pub ruleset reading_laws = (lone, done, full, second, first, halved, other, between)
