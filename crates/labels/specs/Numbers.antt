-- "Numbers that come back": the paper's number and values for each case of the answer, one definition for each enum.
use Rattle.std.specs.Prelude.{ℕ, List, [], ◌∷◌, Result, Ok, Err}
use Rattle.table.specs.declared.labels.Labels.{Labels}
use Rattle.table.specs.Table.{no_labels}
use Rattle.labels.specs.declared.pass.Refusal.{Refusal}
use Rattle.labels.specs.declared.pass.Refusal.TheVariants.{NoSource, ShortString, NoOperation, TooManyLabels}
use Rattle.labels.specs.declared.stand.Stand.{Stand}
use Rattle.labels.specs.Pass.{Progress, goes, refused, Mapping, told}

abbrev pub refusal_number : Refusal → List ℕ
refusal_number NoSource = 15 ∷ []
refusal_number (ShortString line) = 16 ∷ line ∷ []
refusal_number (NoOperation line) = 17 ∷ line ∷ []
refusal_number (TooManyLabels line) = 18 ∷ line ∷ []

abbrev pub map_number : Result Labels Refusal → List ℕ
map_number (Ok labels) = 0 ∷ []
map_number (Err refusal) = refusal_number refusal

-- a refused source has no labels, not even those found before
abbrev pub labels_of : Result Labels Refusal → Labels
labels_of (Ok labels) = labels
labels_of (Err refusal) = no_labels

abbrev pub mapping : Result Labels Refusal → Mapping
mapping r = told (map_number r) (labels_of r)

-- how the pass stands after a line
abbrev pub progress : Result Unit Refusal → Stand → Progress
progress (Ok done) s = goes s.address s.labels
progress (Err refusal) s = refused (refusal_number refusal)
