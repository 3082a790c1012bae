-- "The forty opcodes": byte, name, form and length of each operation.
use Rattle.std.specs.Prelude.{ℕ, zero, suc, List, [], ◌∷◌, Option, None, Some}
use Prim.Native.String.{String}
use Rattle.op.specs.declared.form.Form.{Form}
use Rattle.op.specs.declared.operation.Op.{Op}

pub record Row : Type 0 where
  pub byte : ℕ
  pub name : String
  pub form : Form

abbrev row : ℕ → String → Form → Row
row b n f = record { byte = b; name = n; form = f }

-- "Bytes 0x00..0x27, in order", and the table of operands
abbrev pub row_of : Op → Row
row_of Op.HLT = row 0x00 "HLT" Form.None
row_of Op.NOP = row 0x01 "NOP" Form.None
row_of Op.LDI = row 0x02 "LDI" Form.RegImm
row_of Op.LDA = row 0x03 "LDA" Form.RegAddr
row_of Op.LDR = row 0x04 "LDR" Form.RegReg
row_of Op.MOV = row 0x05 "MOV" Form.RegReg
row_of Op.STORE = row 0x06 "STORE" Form.RegAddr
row_of Op.PUSH = row 0x07 "PUSH" Form.Reg
row_of Op.POP = row 0x08 "POP" Form.Reg
row_of Op.ADD = row 0x09 "ADD" Form.RegReg
row_of Op.ADDI = row 0x0a "ADDI" Form.RegImm
row_of Op.SUB = row 0x0b "SUB" Form.RegReg
row_of Op.SUBI = row 0x0c "SUBI" Form.RegImm
row_of Op.INC = row 0x0d "INC" Form.Reg
row_of Op.DEC = row 0x0e "DEC" Form.Reg
row_of Op.AND = row 0x0f "AND" Form.RegReg
row_of Op.OR = row 0x10 "OR" Form.RegReg
row_of Op.XOR = row 0x11 "XOR" Form.RegReg
row_of Op.NOT = row 0x12 "NOT" Form.Reg
row_of Op.CMP = row 0x13 "CMP" Form.RegReg
row_of Op.SHL = row 0x14 "SHL" Form.Reg
row_of Op.SHR = row 0x15 "SHR" Form.Reg
row_of Op.JMP = row 0x16 "JMP" Form.Addr
row_of Op.JZ = row 0x17 "JZ" Form.Addr
row_of Op.JNZ = row 0x18 "JNZ" Form.Addr
row_of Op.PRINT = row 0x19 "PRINT" Form.Reg
row_of Op.MUL = row 0x1a "MUL" Form.RegReg
row_of Op.MULI = row 0x1b "MULI" Form.RegImm
row_of Op.DIV = row 0x1c "DIV" Form.RegReg
row_of Op.DIVI = row 0x1d "DIVI" Form.RegImm
row_of Op.MOD = row 0x1e "MOD" Form.RegReg
row_of Op.MODI = row 0x1f "MODI" Form.RegImm
row_of Op.CALL = row 0x20 "CALL" Form.Addr
row_of Op.RET = row 0x21 "RET" Form.None
row_of Op.ROL = row 0x22 "ROL" Form.Reg
row_of Op.ROR = row 0x23 "ROR" Form.Reg
row_of Op.IN = row 0x24 "IN" Form.Reg
row_of Op.JMPR = row 0x25 "JMPR" Form.Reg
row_of Op.CALLR = row 0x26 "CALLR" Form.Reg
row_of Op.STR = row 0x27 "STR" Form.RegReg

abbrev pub byte_of : Op → ℕ
byte_of o = (row_of o).byte

abbrev pub form_of : Op → Form
form_of o = (row_of o).form

-- the table's column "Length"
abbrev pub length_of : Form → ℕ
length_of Form.None = 1
length_of Form.RegImm = 3
length_of Form.RegAddr = 3
length_of Form.Reg = 2
length_of Form.RegReg = 2
length_of Form.Addr = 2

-- "rows of eight: 0x00, 0x08, 0x10, 0x18, 0x20"
abbrev pub ops : List Op
ops =
    Op.HLT ∷ Op.NOP ∷ Op.LDI ∷ Op.LDA ∷ Op.LDR ∷ Op.MOV ∷ Op.STORE ∷ Op.PUSH ∷
    Op.POP ∷ Op.ADD ∷ Op.ADDI ∷ Op.SUB ∷ Op.SUBI ∷ Op.INC ∷ Op.DEC ∷ Op.AND ∷
    Op.OR ∷ Op.XOR ∷ Op.NOT ∷ Op.CMP ∷ Op.SHL ∷ Op.SHR ∷ Op.JMP ∷ Op.JZ ∷
    Op.JNZ ∷ Op.PRINT ∷ Op.MUL ∷ Op.MULI ∷ Op.DIV ∷ Op.DIVI ∷ Op.MOD ∷ Op.MODI ∷
    Op.CALL ∷ Op.RET ∷ Op.ROL ∷ Op.ROR ∷ Op.IN ∷ Op.JMPR ∷ Op.CALLR ∷ Op.STR ∷
    []

-- "0x28..0xFF are invalid"
abbrev pub op_at : List Op → ℕ → Option Op
op_at [] b = None
op_at (o ∷ os) zero = Some o
op_at (o ∷ os) (suc b) = op_at os b

abbrev pub decoded : ℕ → Option Op
decoded b = op_at ops b
