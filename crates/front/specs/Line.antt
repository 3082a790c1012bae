-- "each line is address, name and operands parted by one space, then LF; registers R0..R15, bytes as 0x and two upper-case digits. The line is
-- made from the decoded operands." And, by the change request: "An instruction not in plain spelling is now one `.DB` line holding all its bytes,
-- parted by spaces. `.DB` of one byte stays for invalid and cut ones."
use Rattle.std.specs.Prelude.{ℕ, cond, List, [], ◌∷◌, ◌++◌, take}
use Rattle.digits.specs.Digit.{pair_of}
use Rattle.text.specs.Decimal.{decimal}
use Rattle.text.specs.Text.{codes, line_end}
use Rattle.op.specs.Operations.{form_of, length_of}
use Rattle.names.specs.Names.{name_of}
use Rattle.instruction.specs.declared.operands.Operands.{Operands}
use Rattle.instruction.specs.declared.operands.Operands.TheVariants.{None, Reg, RegImm, RegReg, RegAddr, Addr}
use Rattle.front.specs.declared.front.Front.{Front}
use Rattle.front.specs.declared.front.Front.TheVariants.{Whole, Alone}
use Rattle.front.specs.Front.{front_of}

abbrev pub byte_text : ℕ → List ℕ
byte_text b = codes "0x" ++ pair_of b

abbrev pub register_text : ℕ → List ℕ
register_text r = codes "R" ++ decimal r

-- a word behind a space
abbrev pub then : List ℕ → List ℕ
then word = codes " " ++ word

abbrev pub operands_text : Operands → List ℕ
operands_text None = []
operands_text (Reg r) = then (register_text r)
operands_text (RegImm r v) = then (register_text r) ++ then (byte_text v)
operands_text (RegReg d s) = then (register_text d) ++ then (register_text s)
operands_text (RegAddr r a) = then (register_text r) ++ then (byte_text a)
operands_text (Addr a) = then (byte_text a)

-- bytes, each behind a space, in the text that a byte has
abbrev pub spaced : (ℕ → List ℕ) → List ℕ → List ℕ
spaced text [] = []
spaced text (b ∷ bs) = then (text b) ++ spaced text bs

-- of an instruction its name and operands where the spelling is plain, else `.DB` and all its bytes; or `.DB` and the byte that stands alone
abbrev pub words_of : Front → List ℕ → List ℕ
words_of (Whole i) bytes =
    cond i.plain (then (name_of i.op) ++ operands_text i.operands)
    (then (codes ".DB") ++ spaced byte_text (take (length_of (form_of i.op)) bytes))
words_of (Alone byte) bytes = then (codes ".DB") ++ then (byte_text byte)

unfoldable pub line_of : ℕ → Front → List ℕ → List ℕ
line_of address front bytes = byte_text address ++ words_of front bytes ++ line_end

-- the line of what the bytes from an address on begin with
abbrev pub line_at : ℕ → List ℕ → List ℕ
line_at address bytes = line_of address (front_of bytes) bytes
