-- Laws of lists of bytes: each is below 256, and parts of bytes are bytes.
use mathlib.Core.List.{List, [], ◌∷◌, ◌++◌}
use Prim.Native.Nat.{ℕ, zero, suc, ◌<◌}
use native.Mathlib.Omega.{arith}
use lib.ListN.{get_or, take, drop}
use Rattle.fields.specs.Bytes.{Bytes}

-- past the end stands 0
pub byte_low : (l : List ℕ) (k : ℕ) → Bytes l → get_or l k 0 < 256
byte_low [] k are = omega arith
byte_low (b ∷ l) zero are = are.0
byte_low (b ∷ l) (suc k) are = byte_low l k are.1

pub bytes_append : (a b : List ℕ) → Bytes a → Bytes b → Bytes (a ++ b)
bytes_append [] b is are = are
bytes_append (x ∷ a) b is are = (is.0, bytes_append a b is.1 are)

pub bytes_drop : (a : ℕ) (l : List ℕ) → Bytes l → Bytes (drop a l)
bytes_drop zero l are = are
bytes_drop (suc a) [] are = tt
bytes_drop (suc a) (b ∷ l) are = bytes_drop a l are.1

pub bytes_take : (n : ℕ) (l : List ℕ) → Bytes l → Bytes (take n l)
bytes_take zero l are = tt
bytes_take (suc n) [] are = tt
bytes_take (suc n) (b ∷ l) are = (are.0, bytes_take n l are.1)
