-- The paper's number and values for each case of the answer, and how the reading stands after a line.
use Rattle.std.specs.Prelude.{ℕ, List, [], ◌∷◌, Result, Ok, Err}
use Rattle.hexread.specs.declared.answer.Refusal.{Refusal}
use Rattle.hexread.specs.declared.answer.Refusal.TheVariants.{NoImage, Shape, Checksum, OtherType, PastEnd, SetTwice, NoEnd, TextAfter}
use Rattle.hexread.specs.declared.read.Turn.{Turn}
use Rattle.hexread.specs.declared.read.Turn.TheVariants.{Goes, Ended}
use Rattle.hexread.specs.File.{Progress, goes, ended, refused, Outcome, accepted, rejected, sheet}

abbrev pub refusal_number : Refusal → List ℕ
refusal_number NoImage = 19 ∷ []
refusal_number (Shape line) = 20 ∷ line ∷ []
refusal_number (Checksum line) = 21 ∷ line ∷ []
refusal_number (OtherType line) = 22 ∷ line ∷ []
refusal_number (PastEnd line) = 23 ∷ line ∷ []
refusal_number (SetTwice line) = 24 ∷ line ∷ []
refusal_number NoEnd = 25 ∷ []
refusal_number TextAfter = 26 ∷ []

-- a number that comes with the line
abbrev pub in_line : (number line : ℕ) → List ℕ
in_line number line = number ∷ line ∷ []

abbrev pub read_number : Result Unit Refusal → List ℕ
read_number (Ok done) = 0 ∷ []
read_number (Err refusal) = refusal_number refusal

-- from the image and its marks as they are then
abbrev pub progress : Result Turn Refusal → (image marks : List ℕ) → Progress
progress (Ok Goes) image marks = goes (sheet image marks)
progress (Ok Ended) image marks = ended (sheet image marks)
progress (Err refusal) image marks = refused (refusal_number refusal)

-- after a record, which is no end
abbrev pub placing : Result Unit Refusal → (image marks : List ℕ) → Progress
placing (Ok done) image marks = goes (sheet image marks)
placing (Err refusal) image marks = refused (refusal_number refusal)

abbrev pub outcome : Result Unit Refusal → (image marks : List ℕ) → Outcome
outcome (Ok done) image marks = accepted (sheet image marks)
outcome (Err refusal) image marks = rejected (refusal_number refusal)
