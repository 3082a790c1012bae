-- The marks that are not 0 are those that the definition counts.
use Rattle.std.proofs.Common.{◌≡◌, ℕ, ◌+◌, Bool, true, false, cond, not, eqb, List, count_by, refl, sym, zero-add}
use Rattle.std.proofs.lemmas.List.Recursion.{is_count_by}
use Rattle.scan.specs.declared.class.Class.TheVariants.{IsNot}
use Rattle.scan.specs.Class.{passes}
use Rattle.scan.specs.Scan.{count}

one_more : (b : Bool) (n : ℕ) → cond b 1 0 + n ≡ cond b (1 + n) n
one_more true n = refl
one_more false n = zero-add n

pub counted : (marks : List ℕ) → count_by (λ m. not (eqb m 0)) marks ≡ count (IsNot 0) marks
unfolding count passes
counted marks =
    sym (is_count_by (count (IsNot 0)) (λ m. not (eqb m 0)) refl (λ m ms. one_more (not (eqb m 0)) (count (IsNot 0) ms)) marks)
