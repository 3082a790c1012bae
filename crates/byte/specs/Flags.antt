-- "Flag bits: Z 1, C 2, N 4, Y 8. No instruction touches Y or bits 4..7."
use Rattle.std.specs.Prelude.{ℕ, ◌-◌, ◌/◌, Bool, true, false, not, ◌==◌, bit_and, bit_or}

abbrev pub Z : ℕ
Z = 1

abbrev pub C : ℕ
C = 2

abbrev pub N : ℕ
N = 4

abbrev pub Y : ℕ
Y = 8

-- the flags with the bits of a byte set, and with them cleared; whether any of them is set
abbrev pub set_flag : ℕ → ℕ → ℕ
set_flag flags bit = bit_or flags bit

abbrev pub clear_flag : ℕ → ℕ → ℕ
clear_flag flags bit = bit_and flags (255 - bit)

abbrev pub get_flag : ℕ → ℕ → Bool
get_flag flags bit = not (bit_and flags bit == 0)

-- a yes or no as a number
abbrev pub bit : Bool → ℕ
bit true = 1
bit false = 0

-- set when the test holds, cleared otherwise
abbrev pub put_flag : ℕ → ℕ → Bool → ℕ
put_flag flags bit true = set_flag flags bit
put_flag flags bit false = clear_flag flags bit

-- "ZN" sets Z when the byte is 0 and clears it otherwise, N from bit 7
unfoldable pub zn : ℕ → ℕ → ℕ
zn flags result = put_flag (put_flag flags Z (result == 0)) N (result / 128 == 1)

unfoldable pub with_carry : ℕ → Bool → ℕ
with_carry flags carry = put_flag flags C carry
