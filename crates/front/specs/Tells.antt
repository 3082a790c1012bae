-- The listing hides no difference: statements, which the laws of the same names prove. They are said of bytes; a program of any length will do,
-- those that the listing accepts and others.
use Rattle.std.specs.Prelude.{ℕ, ◌<◌, ◌≡◌, List, length, take}
use Rattle.fields.specs.Bytes.{Bytes}
use Rattle.front.specs.Front.{front_of, size_of}
use Rattle.front.specs.Line.{line_at}
use Rattle.front.specs.Listed.{lines_of, listed}

-- the bytes that a line stands for
abbrev pub stands_for : List ℕ → List ℕ
stands_for bytes = take (size_of (front_of bytes)) bytes

-- a line determines the bytes that it stands for, whatever its address
abbrev pub LineTellsBytes : Type 0
LineTellsBytes =
    (a b : ℕ) (bytes others : List ℕ) → Bytes bytes → Bytes others → 0 < length bytes → 0 < length others →
    line_at a bytes ≡ line_at b others → stands_for bytes ≡ stands_for others

-- a text determines its lines, whatever its start
abbrev pub TextTellsLines : Type 0
TextTellsLines =
    (program other : List ℕ) (a b : ℕ) → listed program a ≡ listed other b → lines_of program a ≡ lines_of other b

-- "two programs of one start address with equal listings are equal byte for byte"
abbrev pub ListingTellsProgram : Type 0
ListingTellsProgram =
    (program other : List ℕ) (start : ℕ) → Bytes program → Bytes other →
    listed program start ≡ listed other start → program ≡ other
