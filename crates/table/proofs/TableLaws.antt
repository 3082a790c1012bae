-- Two stretches are alike where the bytes at each place of both are.
use Rattle.std.proofs.Common.{◌≡◌, ℕ, zero, suc, ◌+◌, eqb, ◌&&◌, List, get_or, refl, ap, add-zero, arith}
use Rattle.std.specs.List.{list_all, range_with_len}
use Rattle.table.specs.Table.{alike}

module _ (s : List ℕ) (a b : ℕ) where
  pub alike_from :
      (i n : ℕ) → list_all (λ k. eqb (get_or s (a + k) 0) (get_or s (b + k) 0)) (range_with_len i n) ≡ alike s (a + i) (b + i) n
  unfolding alike
  alike_from i zero = refl
  alike_from i (suc n) =
      let first : a + i + 1 ≡ a + (i + 1) = omega arith in
      let second : b + i + 1 ≡ b + (i + 1) = omega arith in
      rw (first, second) (ap (λ rest. eqb (get_or s (a + i) 0) (get_or s (b + i) 0) && rest) (alike_from (i + 1) n))

  pub alike_all : (n : ℕ) → list_all (λ k. eqb (get_or s (a + k) 0) (get_or s (b + k) 0)) (range_with_len 0 n) ≡ alike s a b n
  alike_all n = rw (add-zero a, add-zero b) at (alike_from 0 n)
