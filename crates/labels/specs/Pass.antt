-- "The address pass": line by line, how far each moves the address, and which labels stand where.
use Rattle.std.specs.Prelude.{ℕ, ◌+◌, ◌%◌, cond, ◌||◌, List, [], ◌∷◌, Option, Some, None, Result, Ok, Err, length, nat_lt}
use Rattle.scan.specs.declared.class.Class.TheVariants.{IsNot, Solid, High}
use Rattle.scan.specs.Scan.{first, last, some}
use Rattle.source.specs.declared.meaning.Meaning.{Meaning}
use Rattle.source.specs.declared.meaning.Meaning.TheVariants.{Nothing, Bytes, Label}
use Rattle.source.specs.declared.meaning.Unread.{Unread}
use Rattle.source.specs.declared.meaning.Unread.TheVariants.{ShortString, NoOperation}
use Rattle.source.specs.Line.{line_of, lines_of}
use Rattle.source.specs.Meaning.{meaning_of}
use Rattle.table.specs.declared.labels.Labels.{Labels}
use Rattle.table.specs.Table.{no_labels, found, readdressed, with_label}

-- the pass goes on with an address and the labels found so far, or a line was refused: the paper's number and its values
pub data Progress : Type 0 where
  goes : ℕ → Labels → Progress
  refused : List ℕ → Progress

-- "record the address", for the i-th name or a new one; "a 65th label name" is 18
abbrev pub recorded : (t : Labels) → Option ℕ → (place size number address : ℕ) → Progress
recorded t (Some i) place size number address = goes address (readdressed t i address)
recorded t None place size number address =
    cond (nat_lt t.count 64) (goes address (with_label t place size address)) (refused (18 ∷ number ∷ []))

-- a label whose name stands at a place
unfoldable pub labelled : (source : List ℕ) (t : Labels) (place size number address : ℕ) → Progress
labelled source t place size number address =
    recorded t (found source t place size) place size number address

-- a line by what it means, from its place in the source, its number, and the address and the labels before it
abbrev pub after :
    Result Meaning Unread → (source : List ℕ) (place number address : ℕ) (t : Labels) (raw : List ℕ) → Progress
after (Ok Nothing) source place number address t raw = goes address t
-- "Addresses wrap modulo 256."
after (Ok (Bytes n)) source place number address t raw = goes ((address + n) % 256) t
-- the name begins at the line's first byte that is no blank; "trailing colons dropped": `:` is 0x3A
after (Ok Label) source place number address t raw =
    labelled source t (place + first Solid raw) (last (IsNot 0x3a) (line_of raw)) number address
after (Err ShortString) source place number address t raw = refused (16 ∷ number ∷ [])
after (Err NoOperation) source place number address t raw = refused (17 ∷ number ∷ [])

unfoldable pub turn : (source : List ℕ) (place number address : ℕ) (t : Labels) (raw : List ℕ) → Progress
turn source place number address t raw = after (meaning_of (line_of raw)) source place number address t raw

-- the lines one after the other, each behind the LF of the one before; "the earliest line" that is refused ends the pass
unfoldable pub pass : (source : List ℕ) (place number : ℕ) → Progress → (lines : List (List ℕ)) → Progress
pass source place number p [] = p
pass source place number (goes address t) (raw ∷ lines) =
    pass source (place + (length raw + 1)) (number + 1) (turn source place number address t raw) lines
pass source place number (refused answer) (raw ∷ lines) = refused answer

-- the paper's number and its values, and the table
pub record Mapping : Type 0 where
  pub answer : List ℕ
  pub labels : Labels

abbrev pub told : List ℕ → Labels → Mapping
told answer labels = record { answer = answer; labels = labels }

-- "15 to 18 give an empty label table"
abbrev pub ended : Progress → Mapping
ended (goes address t) = told (0 ∷ []) t
ended (refused answer) = told answer no_labels

-- from address 0; the first line is line 1 (decision P1)
abbrev pub passed : List ℕ → Progress
passed source = pass source 0 1 (goes 0 no_labels) (lines_of source)

-- "15: source above 16,384 bytes, or a byte above 0x7F"; "15 first, then the earliest line"
unfoldable pub mapping_of : List ℕ → Mapping
mapping_of source =
    cond (nat_lt 16384 (length source) || some High source) (told (15 ∷ []) no_labels) (ended (passed source))
