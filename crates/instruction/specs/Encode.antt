-- "Encode gives one of the forty opcodes and its operands as up to three bytes, unused ones 0, a lone register's high nibble 0."
use Rattle.std.specs.Prelude.{ℕ, ◌+◌, ◌*◌, ◌%◌, Bool, true, cond, ◌&&◌, List, [], ◌∷◌, eqb, leb}
use Rattle.op.specs.declared.form.Form.{Form}
use Rattle.op.specs.declared.operation.Op.{Op}
use Rattle.op.specs.Operations.{byte_of, form_of, length_of}
use Rattle.instruction.specs.declared.operands.Operands.{Operands}
use Rattle.instruction.specs.declared.operands.Operands.TheVariants.{None, Reg, RegImm, RegReg, RegAddr, Addr}

-- the form that operands have
abbrev pub shape_of : Operands → Form
shape_of None = Form.None
shape_of (Reg r) = Form.Reg
shape_of (RegImm r v) = Form.RegImm
shape_of (RegReg d s) = Form.RegReg
shape_of (RegAddr r a) = Form.RegAddr
shape_of (Addr a) = Form.Addr

-- two forms are the same where their places in the table of operands are
abbrev pub form_number : Form → ℕ
form_number Form.None = 0
form_number Form.RegImm = 1
form_number Form.RegAddr = 2
form_number Form.Reg = 3
form_number Form.RegReg = 4
form_number Form.Addr = 5

abbrev pub same_form : Form → Form → Bool
same_form f g = eqb (form_number f) (form_number g)

-- no register above 15
abbrev pub registers_exist : Operands → Bool
registers_exist None = true
registers_exist (Reg r) = leb r 15
registers_exist (RegImm r v) = leb r 15
registers_exist (RegReg d s) = leb d 15 && leb s 15
registers_exist (RegAddr r a) = leb r 15
registers_exist (Addr a) = true

-- bytes two and three, total: what stands above a register's low nibble is left out
abbrev pub two_of : Operands → ℕ
two_of None = 0
two_of (Reg r) = r % 16
two_of (RegImm r v) = r % 16
two_of (RegReg d s) = d % 16 * 16 + s % 16
two_of (RegAddr r a) = r % 16
two_of (Addr a) = a

abbrev pub three_of : Operands → ℕ
three_of None = 0
three_of (Reg r) = 0
three_of (RegImm r v) = v
three_of (RegReg d s) = 0
three_of (RegAddr r a) = a
three_of (Addr a) = 0

-- the paper's number and its values, three bytes, and how many of them the instruction takes
pub record Encoding : Type 0 where
  pub answer : List ℕ
  pub bytes : List ℕ
  pub length : ℕ

-- "12, 13 give no bytes": length 0 and bytes 0 0 0 (decision M22)
abbrev pub no_bytes : List ℕ → Encoding
no_bytes answer = record { answer = answer; bytes = 0 ∷ 0 ∷ 0 ∷ []; length = 0 }

abbrev pub three_bytes : Op → Operands → Encoding
three_bytes o a =
    record { answer = 0 ∷ []; bytes = byte_of o ∷ two_of a ∷ three_of a ∷ []; length = length_of (form_of o) }

-- "12 operands of another form", "13 register above 15"; "12 precedes 13"
unfoldable pub encoded_of : Op → Operands → Encoding
encoded_of o a =
    cond (same_form (shape_of a) (form_of o))
    (cond (registers_exist a) (three_bytes o a) (no_bytes (13 ∷ [])))
    (no_bytes (12 ∷ []))
