-- "The bytes of a record, checksum included, sum to 0 modulo 256."
use Rattle.std.specs.Prelude.{ℕ, ◌+◌, ◌-◌, ◌%◌, Bool, List, [], ◌∷◌, ◌==◌}

abbrev pub total : List ℕ → ℕ
total [] = 0
total (b ∷ bs) = b + total bs

abbrev pub sums_to0 : List ℕ → Bool
sums_to0 bytes = total bytes % 256 == 0

-- the checksum of the bytes before it
abbrev pub checksum : List ℕ → ℕ
checksum bytes = (256 - total bytes % 256) % 256
