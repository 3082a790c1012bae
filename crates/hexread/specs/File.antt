-- What a text of Intel HEX does to "a lent 256-byte image with a mark each (0 clear, else set, written 1)".
use Rattle.std.specs.Prelude.{ℕ, ◌≡◌, ◌<◌, ◌+◌, cond, ◌&&◌, List, [], ◌∷◌, ◌++◌, eqb, ltb, length, take, drop, replicate}
use Rattle.scan.specs.declared.class.Class.TheVariants.{Is, IsNot}
use Rattle.scan.specs.Scan.{first, some}
use Rattle.hexline.specs.Row.{Row, fills, ends, refused as row_refused, row_of}

-- the image and its marks
pub record Sheet : Type 0 where
  pub image : List ℕ
  pub marks : List ℕ

abbrev pub sheet : List ℕ → List ℕ → Sheet
sheet image marks = record { image = image; marks = marks }

-- "Each data record fills its stretch in the middle of the lent image, and only that."
abbrev pub filled : List ℕ → ℕ → List ℕ → List ℕ
filled bytes address held = take address bytes ++ held ++ drop (address + length held) bytes

abbrev pub placed : Sheet → ℕ → List ℕ → Sheet
placed s address held = sheet (filled s.image address held) (filled s.marks address (replicate (length held) 1))

-- after a line: the next one, the end, or the paper's number and its values
pub data Progress : Type 0 where
  goes : Sheet → Progress
  ended : Sheet → Progress
  refused : List ℕ → Progress

-- "23 a byte past address 255, 24 byte set twice"; no bytes are good at any address (decision H4)
unfoldable pub put : ℕ → Sheet → ℕ → List ℕ → Progress
put number s address held =
    cond (ltb 0 (length held) && ltb 256 (address + length held))
    (refused (23 ∷ number ∷ []))
    (cond (some (IsNot 0) (take (length held) (drop address s.marks)))
    (refused (24 ∷ number ∷ []))
    (goes (placed s address held)))

abbrev pub after : Row → ℕ → Sheet → Progress
after (fills address held) number s = put number s address held
after ends number s = ended s
after (row_refused n) number s = refused (n ∷ number ∷ [])

unfoldable pub turn : ℕ → Sheet → List ℕ → Progress
turn number s line = after (row_of line) number s

-- what the whole text comes to: a sheet, or the paper's number and its values
pub data Outcome : Type 0 where
  accepted : Sheet → Outcome
  rejected : List ℕ → Outcome

-- behind the end record nothing may stand: "26 text after it"
abbrev pub onward : Progress → (Sheet → Outcome) → List ℕ → Outcome
onward (goes s) next rest = next s
onward (ended s) next [] = accepted s
onward (ended s) next (b ∷ rest) = rejected (26 ∷ [])
onward (refused answer) next rest = rejected answer

-- the text from a place on, within a line of a number, of which some bytes stand before: "first line at fault first up to the end record"; "then 25 no
-- end record". LF, 0x0A, ends each line, the last one too (decision H1).
unfoldable pub lines_from : ℕ → List ℕ → Sheet → List ℕ → Outcome
lines_from number [] s [] = rejected (25 ∷ [])
lines_from number (c ∷ line) s [] = rejected (20 ∷ number ∷ [])
lines_from number line s (b ∷ rest) =
    cond (eqb b 0x0a)
    (onward (turn number s line) (λ s. lines_from (number + 1) [] s rest) rest)
    (lines_from number (line ++ (b ∷ [])) s rest)

-- a text that begins with a line, cut at its LF, and goes on behind it
abbrev pub IsFirstLine : (text line behind : List ℕ) → Type 0
IsFirstLine text line behind =
    let end = first (Is 0x0a) text in
    (end < length text) × (line ≡ take end text) × (behind ≡ drop (end + 1) text)

-- "a read takes them as clear"
abbrev pub file_of : (text image : List ℕ) → Outcome
file_of text image = lines_from 1 [] (sheet image (replicate 256 0)) text

-- the paper's number and its values, the image and its marks
pub record Reading : Type 0 where
  pub answer : List ℕ
  pub image : List ℕ
  pub marks : List ℕ

abbrev pub told : List ℕ → List ℕ → List ℕ → Reading
told answer image marks = record { answer = answer; image = image; marks = marks }

-- "A refused file leaves image and marks as found."
abbrev pub told_by : Outcome → List ℕ → List ℕ → Reading
told_by (accepted s) image marks = told (0 ∷ []) s.image s.marks
told_by (rejected answer) image marks = told answer image marks

-- "19: a lent image or its marks not 256 long"
unfoldable pub reading_of : (text image marks : List ℕ) → Reading
reading_of text image marks =
    cond (eqb (length image) 256 && eqb (length marks) 256) (told_by (file_of text image) image marks) (told (19 ∷ []) image marks)
