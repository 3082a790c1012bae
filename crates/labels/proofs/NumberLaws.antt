-- Equal numbers and values: equal answers. So two results that the promise of map_labels allows are one.
use Rattle.std.proofs.Common.{◌≡◌, ℕ, cond, eqb, get_or, Result, Ok, Err, refl, sym, ap, ◌∙◌}
use Rattle.table.specs.declared.labels.Labels.{Labels}
use Rattle.labels.specs.declared.pass.Refusal.{Refusal}
use Rattle.labels.specs.declared.pass.Refusal.TheVariants.{NoSource, ShortString, NoOperation, TooManyLabels}
use Rattle.labels.specs.Pass.{Mapping}
use Rattle.labels.specs.Numbers.{mapping}

-- the refusal of a number and its line
abbrev refusal_from : ℕ → ℕ → Refusal
refusal_from number line =
    cond (eqb number 15) NoSource
    (cond (eqb number 16) (ShortString line) (cond (eqb number 17) (NoOperation line) (TooManyLabels line)))

-- the result that a mapping is of
abbrev mapped_from : Mapping → Result Labels Refusal
mapped_from m =
    cond (eqb (get_or m.answer 0 0) 0) (Ok m.labels) (Err (refusal_from (get_or m.answer 0 0) (get_or m.answer 1 0)))

read_back : (r : Result Labels Refusal) → mapped_from (mapping r) ≡ r
read_back (Ok labels) = refl
read_back (Err NoSource) = refl
read_back (Err (ShortString line)) = refl
read_back (Err (NoOperation line)) = refl
read_back (Err (TooManyLabels line)) = refl

pub mapping_injective : (r s : Result Labels Refusal) → mapping r ≡ mapping s → r ≡ s
mapping_injective r s e = sym (read_back r) ∙ (ap mapped_from e ∙ read_back s)
