-- A number of four bytes, the lowest first.
use Rattle.std.specs.Prelude.{ℕ, ◌+◌, ◌*◌, ◌/◌, ◌%◌, List, [], ◌∷◌}
use Rattle.fields.specs.Read.{byte_at}

abbrev pub four : ℕ → List ℕ
four n = n % 256 ∷ n / 256 % 256 ∷ n / 65536 % 256 ∷ n / 16777216 % 256 ∷ []

abbrev pub four_at : List ℕ → ℕ → ℕ
four_at bytes at =
    byte_at bytes at + 256 * byte_at bytes (at + 1) + 65536 * byte_at bytes (at + 2) + 16777216 * byte_at bytes (at + 3)
