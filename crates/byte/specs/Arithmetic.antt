-- "ADD, SUB, MUL and value forms: d op s, low byte, ZN, C when the exact result is outside 0..255.
-- DIV, MOD: quotient, remainder, ZN, C cleared." The byte and the bit of each; the flags are Flags.antt's.
use Rattle.std.specs.Prelude.{ℕ, ◌+◌, ◌-◌, ◌*◌, ◌/◌, ◌%◌, false, nat_lt}
use Rattle.byte.specs.declared.Carried.{Carried}

-- the low byte of an exact result, and whether that lies above 255
abbrev pub low_byte : ℕ → Carried
low_byte exact = record { value = exact % 256; carry = nat_lt 255 exact }

abbrev pub sum_of : ℕ → ℕ → Carried
sum_of d s = low_byte (d + s)

-- modulo 256; 256 more has the same low byte, and is not below 0
abbrev pub wrapped_sub : ℕ → ℕ → ℕ
wrapped_sub d s = (256 + d - s) % 256

-- the exact result is below 0 where s is the larger
abbrev pub difference_of : ℕ → ℕ → Carried
difference_of d s = record { value = wrapped_sub d s; carry = nat_lt d s }

abbrev pub product_of : ℕ → ℕ → Carried
product_of d s = low_byte (d * s)

abbrev pub quotient_of : ℕ → ℕ → Carried
quotient_of d s = record { value = d / s; carry = false }

abbrev pub remainder_of : ℕ → ℕ → Carried
remainder_of d s = record { value = d % s; carry = false }
