-- Operands as two numbers.
use Rattle.std.specs.Prelude.{ℕ}
use Rattle.op.specs.declared.form.Form.{Form}
use Rattle.instruction.specs.declared.operands.Operands.{Operands}
use Rattle.instruction.specs.declared.operands.Operands.TheVariants.{None, Reg, RegImm, RegReg, RegAddr, Addr}

-- operands of a form, from two numbers; what the form does not take is left out
abbrev pub given : Form → ℕ → ℕ → Operands
given Form.None first second = None
given Form.Reg first second = Reg first
given Form.RegImm first second = RegImm first second
given Form.RegReg first second = RegReg first second
given Form.RegAddr first second = RegAddr first second
given Form.Addr first second = Addr first
