-- A rotation by one, as the library says it and as the definitions do: computed at each of the 256 bytes.
use Rattle.std.proofs.Common.{◌≡◌, ℕ, ◌+◌, ◌*◌, ◌/◌, ◌%◌, ◌<◌, eqb, w8, eqb→eq}
use Rattle.std.specs.Int.{rotate_left, rotate_right}
use Rattle.byte.proofs.Below.{below}

pub left : (a : ℕ) → a < 256 → rotate_left w8 a 1 ≡ a * 2 % 256 + a / 128
left a h = eqb→eq _ _ (below (λ a. eqb (rotate_left w8 a 1) (a * 2 % 256 + a / 128)) 256 tt a h)

pub right : (a : ℕ) → a < 256 → rotate_right w8 a 1 ≡ a / 2 + a % 2 * 128
right a h = eqb→eq _ _ (below (λ a. eqb (rotate_right w8 a 1) (a / 2 + a % 2 * 128)) 256 tt a h)
