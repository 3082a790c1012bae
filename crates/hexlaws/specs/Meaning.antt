-- What a text means, whatever image it is read onto: a partial map from addresses to bytes, or a refusal.
use Rattle.std.specs.Prelude.{ℕ, ◌+◌, cond, List, [], ◌∷◌, eqb, get_or, replicate}
use Rattle.hexread.specs.File.{Sheet, Outcome, accepted, rejected, file_of, Reading, told}

-- what a map has for an address
pub data Cell : Type 0 where
  clear : Cell
  holds : ℕ → Cell

pub data Meaning : Type 0 where
  map : (ℕ → Cell) → Meaning
  refused : List ℕ → Meaning

-- "0 clear, else set"
abbrev pub cell_at : Sheet → ℕ → Cell
cell_at s address = cond (eqb (get_or s.marks address 0) 0) clear (holds (get_or s.image address 0))

abbrev pub meaning_by : Outcome → Meaning
meaning_by (accepted s) = map (cell_at s)
meaning_by (rejected answer) = refused answer

-- read onto nothing
abbrev pub meaning_of : List ℕ → Meaning
meaning_of text = meaning_by (file_of text (replicate 256 0))

-- "keeps the image there" where the map has nothing
abbrev pub byte_or : ℕ → Cell → ℕ
byte_or kept clear = kept
byte_or kept (holds byte) = byte

abbrev pub mark : Cell → ℕ
mark clear = 0
mark (holds byte) = 1

-- the map over as many bytes as there are, from an address on, and its marks
unfoldable pub map_over : (ℕ → Cell) → ℕ → List ℕ → List ℕ
map_over m address [] = []
map_over m address (b ∷ bs) = byte_or b (m address) ∷ map_over m (address + 1) bs

unfoldable pub marks_over : (ℕ → Cell) → ℕ → List ℕ → List ℕ
marks_over m address [] = []
marks_over m address (b ∷ bs) = mark (m address) ∷ marks_over m (address + 1) bs

-- a meaning, put onto an image
abbrev pub onto_image : Meaning → (image marks : List ℕ) → Reading
onto_image (map m) image marks = told (0 ∷ []) (map_over m 0 image) (marks_over m 0 marks)
onto_image (refused answer) image marks = told answer image marks
