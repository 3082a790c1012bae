-- The line of a record, as it is written: "in upper case with LF".
use Rattle.std.specs.Prelude.{ℕ, ◌/◌, ◌%◌, List, [], ◌∷◌, ◌++◌, length}
use Rattle.text.specs.Text.{codes, line_end}
use Rattle.hexline.specs.Spelling.{digits_of}
use Rattle.hexline.specs.Sum.{checksum}

-- all bytes of a record before its checksum: how many data bytes there are, the address, the type, the data
abbrev pub front_of : (type address : ℕ) (held : List ℕ) → List ℕ
front_of type address held = length held ∷ address / 256 ∷ address % 256 ∷ type ∷ held

abbrev pub record_of : (type address : ℕ) (held : List ℕ) → List ℕ
record_of type address held = front_of type address held ++ (checksum (front_of type address held) ∷ [])

-- without its LF
abbrev pub word_of : (type address : ℕ) (held : List ℕ) → List ℕ
word_of type address held = codes ":" ++ digits_of (record_of type address held)

unfoldable pub line_of : (type address : ℕ) (held : List ℕ) → List ℕ
line_of type address held = word_of type address held ++ line_end
