-- A test that the checker computes at each number below n, one after the other, holds of every number below n; and one that it
-- computes at true and at false holds of both.
use Rattle.std.proofs.Common.{ℕ, zero, suc, ◌<◌, Bool, true, false, ◌&&◌, T, sym, subst, ⊎_elim, le_of_suc-le-suc, not-suc-le-zero, eq-or-lt_of_le}

-- the two parts of a test
pub both : (a b : Bool) → T (a && b) → T a × T b
both true b t = (tt, t)
both false b t = absurd t

abbrev pub passes : (ℕ → Bool) → ℕ → Bool
passes f zero = true
passes f (suc n) = f n && passes f n

pub below : (f : ℕ → Bool) (n : ℕ) → T (passes f n) → (k : ℕ) → k < n → T (f k)
below f zero t k h = absurd (not-suc-le-zero h)
below f (suc n) t k h =
    let parts = both (f n) (passes f n) t in
    ⊎_elim (λ e. subst (λ (m : ℕ). T (f m)) (sym e) parts.0) (λ l. below f n parts.1 k l)
    (eq-or-lt_of_le (le_of_suc-le-suc h))

abbrev pub passes_both : (Bool → Bool) → Bool
passes_both f = f true && f false

pub either : (f : Bool → Bool) → T (passes_both f) → (b : Bool) → T (f b)
either f t true = (both (f true) (f false) t).0
either f t false = (both (f true) (f false) t).1
