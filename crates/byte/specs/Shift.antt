-- "SHL, SHR, ROL, ROR by one: ZN, C the bit that left. Rotations do not pass through C."
use Rattle.std.specs.Prelude.{ℕ, ◌+◌, ◌*◌, ◌/◌, ◌%◌, ◌==◌}
use Rattle.byte.specs.declared.Carried.{Carried}

-- bit 7 and bit 0 of a byte, as 0 or 1
abbrev pub bit7 : ℕ → ℕ
bit7 a = a / 128

abbrev pub bit0 : ℕ → ℕ
bit0 a = a % 2

abbrev pub shifted_left : ℕ → Carried
shifted_left a = record { value = a * 2 % 256; carry = (bit7 a == 1) }

abbrev pub shifted_right : ℕ → Carried
shifted_right a = record { value = a / 2; carry = (bit0 a == 1) }

abbrev pub rotated_left : ℕ → Carried
rotated_left a = record { value = a * 2 % 256 + bit7 a; carry = (bit7 a == 1) }

abbrev pub rotated_right : ℕ → Carried
rotated_right a = record { value = a / 2 + bit0 a * 128; carry = (bit0 a == 1) }
