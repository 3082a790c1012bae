-- "Three bytes are fetched at pc, pc+1, pc+2. A lone register is byte two modulo 16. Of two registers, d is the high nibble of byte two and
-- s the low. Value or address is byte three, or byte two where the address stands alone."
use Rattle.std.specs.Prelude.{ℕ, ◌/◌, ◌%◌}
use Rattle.op.specs.declared.form.Form.{Form}
use Rattle.instruction.specs.declared.operands.Operands.{Operands}
use Rattle.instruction.specs.declared.operands.Operands.TheVariants.{None, Reg, RegImm, RegReg, RegAddr, Addr}

-- from bytes two and three
abbrev pub operands_of : Form → ℕ → ℕ → Operands
operands_of Form.None two three = None
operands_of Form.Reg two three = Reg (two % 16)
operands_of Form.RegImm two three = RegImm (two % 16) three
operands_of Form.RegReg two three = RegReg (two / 16) (two % 16)
operands_of Form.RegAddr two three = RegAddr (two % 16) three
operands_of Form.Addr two three = Addr two

-- the operand that stands first, and the one that stands second; 0 where there is none
abbrev pub first_of : Operands → ℕ
first_of None = 0
first_of (Reg r) = r
first_of (RegImm r v) = r
first_of (RegReg d s) = d
first_of (RegAddr r a) = r
first_of (Addr a) = a

abbrev pub second_of : Operands → ℕ
second_of None = 0
second_of (Reg r) = 0
second_of (RegImm r v) = v
second_of (RegReg d s) = s
second_of (RegAddr r a) = a
second_of (Addr a) = 0
