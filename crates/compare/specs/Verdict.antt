-- How two answers compare: the first place where they part.
use Rattle.std.specs.Prelude.{ℕ, Bool, cond, List, Result, Ok, Err, eqb, ltb, length}
use Rattle.std.specs.List.{common_prefix_len}
use Rattle.fields.specs.Read.{value_at}
use Rattle.compare.specs.declared.verdict.Difference.{Difference}
use Rattle.compare.specs.declared.verdict.Mismatch.{Mismatch}
use Rattle.compare.specs.declared.verdict.Mismatch.TheVariants.{Differs}
use Rattle.compare.specs.declared.verdict.Part.{Part}

-- the difference at a place of two lists, of items that have a number each; past an end stands the number of nothing
abbrev pub difference_at : {A : Type 0} → (A → ℕ) → A → Part → ℕ → List A → List A → Difference
difference_at value nothing part index ours theirs =
    record {
      part = part;
      index = index;
      ours = value_at value nothing ours index;
      theirs = value_at value nothing theirs index;
    }

-- two lists of one length: the same, or their first difference
unfoldable pub parted_by :
    {A : Type 0} → (A → A → Bool) → (A → ℕ) → A → Part → List A → List A → Result (Unit {0}) Mismatch
parted_by same value nothing part ours theirs =
    cond
    (ltb (common_prefix_len same ours theirs) (length ours))
    (Err (Differs (difference_at value nothing part (common_prefix_len same ours theirs) ours theirs)))
    (Ok tt)

-- the same of bytes and of numbers
abbrev pub parted : Part → List ℕ → List ℕ → Result (Unit {0}) Mismatch
parted part ours theirs = parted_by eqb (λ n. n) 0 part ours theirs

-- the first of two that is not the same
abbrev pub or_else : Result (Unit {0}) Mismatch → Result (Unit {0}) Mismatch → Result (Unit {0}) Mismatch
or_else (Ok same) next = next
or_else (Err mismatch) next = Err mismatch
