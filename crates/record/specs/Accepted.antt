-- What a record of this build is known by. Bytes of another length or version, with a field out of its range or with a zero that is not, are
-- none.
use Rattle.std.specs.Prelude.{ℕ, ◌≤◌, List, ◌≡◌, length}
use Rattle.fields.specs.Read.{byte_at}
use Rattle.record.specs.Four.{four_at}

pub record Accepted (bytes : List ℕ) : Type 0 where
  pub long : length bytes ≡ 296
  pub version : byte_at bytes 0 ≡ 1
  pub set : byte_at bytes 1 ≡ 1
  pub halted : byte_at bytes 5 ≤ 1
  pub zero6 : byte_at bytes 6 ≡ 0
  pub zero7 : byte_at bytes 7 ≡ 0
  pub count : four_at bytes 8 ≤ 65535
  pub limit : four_at bytes 12 ≤ 65535
  pub sum : four_at bytes 16 ≡ 0
  pub zero20 : four_at bytes 20 ≡ 0
