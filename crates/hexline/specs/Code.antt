-- What the code's answers stand for: what one private routine promises another, and what a line is.
use Rattle.std.specs.Prelude.{ℕ, ◌≡◌, ◌+◌, List, Option, Some, None, Result, Ok, Err, take}
use Rattle.hexline.specs.declared.record.Record.{Record}
use Rattle.hexline.specs.declared.record.Record.TheVariants.{Fills, Ends}
use Rattle.hexline.specs.declared.record.Misread.{Misread}
use Rattle.hexline.specs.declared.record.Misread.TheVariants.{Shape, Checksum, OtherType}
use Rattle.hexline.specs.declared.spelled.Spelled.{Spelled}
use Rattle.hexline.specs.Row.{Row, fills, ends, refused, address_of, count_of, data_of}
use Rattle.hexline.specs.Spelling.{Spelling, spells, nothing}

-- the bytes that are spelled
abbrev pub bytes_of : Spelled → List ℕ
bytes_of s = take s.count s.bytes

abbrev pub spelling : Option Spelled → Spelling
spelling (Some s) = spells (bytes_of s)
spelling None = nothing

-- the paper's number of each misreading
abbrev pub misread_number : Misread → ℕ
misread_number Shape = 20
misread_number Checksum = 21
misread_number OtherType = 22

-- the row that the answer stands for
abbrev pub rowing : Result Record Misread → Row
rowing (Ok (Fills s)) = fills (address_of (bytes_of s)) (data_of (bytes_of s))
rowing (Ok Ends) = ends
rowing (Err misread) = refused (misread_number misread)

-- a record of data has as many bytes as it says, and five others
abbrev pub IsWhole : Record → Type 0
IsWhole (Fills s) = s.count ≡ count_of (bytes_of s) + 5
IsWhole Ends = Unit {0}
