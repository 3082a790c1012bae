-- Classes of bytes.
use Rattle.std.specs.Prelude.{ℕ, Bool, not, ◌&&◌, ◌||◌, eqb, leb, ltb}
use Rattle.scan.specs.declared.class.Class.{Class}
use Rattle.scan.specs.declared.class.Class.TheVariants.{Is, IsNot, Blank, Solid, High}

-- "Space and 0x09..0x0D are blanks."
abbrev pub blank : ℕ → Bool
blank b = eqb b 0x20 || (leb 0x09 b && leb b 0x0d)

-- whether a byte is of a class; High is "a byte above 0x7F"
unfoldable pub passes : Class → ℕ → Bool
passes (Is c) b = eqb b c
passes (IsNot c) b = not (eqb b c)
passes Blank b = blank b
passes Solid b = not (blank b)
passes High b = ltb 0x7f b
