-- The product of two numbers of k bits has at most k + k: why a product of two bytes fits 16 bits. A law that stands for itself.
use Rattle.std.proofs.Common.{ℕ, ◌+◌, ◌*◌, ◌^◌, ◌<◌, pow-add}
use Rattle.std.proofs.lemmas.Nat.{mul-lt}

pub below : (k : ℕ) {a b : ℕ} → a < 2 ^ k → b < 2 ^ k → a * b < 2 ^ (k + k)
below k {a} {b} ha hb = rw (pow-add 2 k k) (mul-lt a b (2 ^ k) (2 ^ k) ha hb)
