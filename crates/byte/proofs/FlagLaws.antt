-- No update of Z and N, and none of C, touches another flag, Y or bits 4..7: one test of all these updates, computed at each of the
-- 256 flags bytes.
use Rattle.std.proofs.Common.{◌≡◌, ℕ, ◌/◌, ◌<◌, Bool, not, ◌&&◌, T, eqb, ltb, ap, eqb→eq, ltb→lt}
use lib.Bits.{bit_and}
use Rattle.byte.specs.Flags.{Z, C, N, get_flag, put_flag, zn, with_carry}
use Rattle.byte.proofs.Below.{both, below, passes_both, either}

-- the updated flags are a byte, and have the bits from Y up and the flag of this bit as they were
record Kept (bit flags updated : ℕ) : Type 0 where
  byte : updated < 256
  high : updated / 8 ≡ flags / 8
  flag : get_flag updated bit ≡ get_flag flags bit

-- the same as a test
abbrev keeps : ℕ → ℕ → ℕ → Bool
keeps bit flags updated =
    ltb updated 256 && eqb (updated / 8) (flags / 8) && eqb (bit_and updated bit) (bit_and flags bit)

kept : (bit flags updated : ℕ) → T (keeps bit flags updated) → Kept bit flags updated
kept bit flags updated t =
    let low = ltb updated 256 in
    let high = eqb (updated / 8) (flags / 8) in
    let same = eqb (bit_and updated bit) (bit_and flags bit) in
    let last = both (low && high) same t in
    let first = both low high last.0 in
    record {
      byte = ltb→lt updated 256 first.0;
      high = eqb→eq (updated / 8) (flags / 8) first.1;
      flag = ap (λ (b : ℕ). not (eqb b 0)) (eqb→eq (bit_and updated bit) (bit_and flags bit) last.1);
    }

-- the test of each update, with the two flags or the carry that it puts
abbrev zn_keeps : ℕ → Bool → Bool → Bool
zn_keeps flags z n = keeps C flags (put_flag (put_flag flags Z z) N n)

abbrev carry_keeps : ℕ → Bool → Bool
carry_keeps flags c = keeps Z flags (put_flag flags C c) && keeps N flags (put_flag flags C c)

abbrev zn_test : ℕ → Bool
zn_test flags = passes_both (λ z. passes_both (zn_keeps flags z))

abbrev carry_test : ℕ → Bool
carry_test flags = passes_both (carry_keeps flags)

tested : (flags : ℕ) → flags < 256 → T (zn_test flags) × T (carry_test flags)
tested flags h = both (zn_test flags) (carry_test flags) (below (λ f. zn_test f && carry_test f) 256 tt flags h)

module _ (flags result : ℕ) (h : flags < 256) where
  zn_kept : Kept C flags (zn flags result)
  unfolding zn
  zn_kept =
      let z = eqb result 0 in
      kept C flags (zn flags result)
      (either (zn_keeps flags z) (either (λ z. passes_both (zn_keeps flags z)) (tested flags h).0 z) (eqb (result / 128) 1))

  pub zn_below : zn flags result < 256
  zn_below = zn_kept.byte

  pub zn_high : zn flags result / 8 ≡ flags / 8
  zn_high = zn_kept.high

  pub zn_keeps_C : get_flag (zn flags result) C ≡ get_flag flags C
  zn_keeps_C = zn_kept.flag

module _ (flags : ℕ) (carry : Bool) (h : flags < 256) where
  carry_kept : Kept Z flags (with_carry flags carry) × Kept N flags (with_carry flags carry)
  unfolding with_carry
  carry_kept =
      let new = with_carry flags carry in
      let parts = both (keeps Z flags new) (keeps N flags new) (either (carry_keeps flags) (tested flags h).1 carry) in
      (kept Z flags new parts.0, kept N flags new parts.1)

  pub carry_below : with_carry flags carry < 256
  carry_below = carry_kept.0.byte

  pub carry_high : with_carry flags carry / 8 ≡ flags / 8
  carry_high = carry_kept.0.high

  pub carry_keeps_Z : get_flag (with_carry flags carry) Z ≡ get_flag flags Z
  carry_keeps_Z = carry_kept.0.flag

  pub carry_keeps_N : get_flag (with_carry flags carry) N ≡ get_flag flags N
  carry_keeps_N = carry_kept.1.flag
