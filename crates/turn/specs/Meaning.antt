-- "What each does": one clause an operation, in the order of the document.
use Rattle.std.specs.Prelude.{ℕ, ◌+◌, ◌-◌, ◌%◌, Bool, not, List, bit_and, bit_or, bit_xor, slice_index}
use Rattle.byte.specs.Arithmetic.{sum_of, difference_of, product_of, quotient_of, remainder_of, wrapped_sub}
use Rattle.byte.specs.Flags.{Z, get_flag}
use Rattle.byte.specs.Shift.{shifted_left, shifted_right, rotated_left, rotated_right}
use Rattle.op.specs.declared.operation.Op.{Op}
use Rattle.op.specs.Operations.{byte_of, form_of, length_of}
use Rattle.effect.specs.declared.moves.Core.{Core}
use Rattle.effect.specs.declared.Effect.{Effect}
use Rattle.effect.specs.declared.Write.TheVariants.{Nothing, Memory, Output}
use Rattle.instruction.specs.declared.operands.Operands.{Operands}
use Rattle.effect.specs.Effects.{ahead, kept, loaded, resulted, compared, jumped, branched, pushed, popped, returned, taken}
use Rattle.effect.specs.Effects.{Before, nothing, halts, full, empty, zero_divisor, dry, crowded, Fate, fate_by}
use Rattle.instruction.specs.Operands.{first_of, second_of}

-- what an instruction sees: the registers and the memory, where the machine stands, the input, and whether the output has room left
pub record View : Type 0 where
  pub registers : List ℕ
  pub memory : List ℕ
  pub core : Core
  pub input : List ℕ
  pub room : Bool

-- the five together
abbrev pub seen : List ℕ → List ℕ → Core → List ℕ → Bool → View
seen registers memory core input room =
    record { registers = registers; memory = memory; core = core; input = input; room = room }

abbrev pub reg : View → ℕ → ℕ
reg v r = slice_index v.registers r

abbrev pub mem : View → ℕ → ℕ
mem v a = slice_index v.memory a

-- the length of an operation's instruction: "the length to pc unless it jumped"
abbrev pub size : Op → ℕ
size o = length_of (form_of o)

-- What an operation does with its first operand x and its second y.
abbrev pub effect_of : Op → ℕ → ℕ → View → Effect
-- "LDI, LDA, LDR (d from memory at s), MOV (d from s), POP, IN: load, ZN, C kept."
effect_of Op.LDI x y v = loaded v.core (size Op.LDI) x y
effect_of Op.LDA x y v = loaded v.core (size Op.LDA) x (mem v y)
effect_of Op.LDR x y v = loaded v.core (size Op.LDR) x (mem v (reg v y))
effect_of Op.MOV x y v = loaded v.core (size Op.MOV) x (reg v y)
effect_of Op.POP x y v = popped v.core (size Op.POP) x v.memory
effect_of Op.IN x y v = taken v.core (size Op.IN) x v.input
-- "STORE, STR (d to memory at s), PUSH, PRINT, NOP, HLT and all jumps, calls, RET: no flags."
effect_of Op.STORE x y v = kept v.core (size Op.STORE) (Memory y (reg v x))
effect_of Op.STR x y v = kept v.core (size Op.STR) (Memory (reg v y) (reg v x))
effect_of Op.PUSH x y v = pushed v.core (reg v x) (ahead v.core (size Op.PUSH))
effect_of Op.PRINT x y v = kept v.core (size Op.PRINT) (Output (reg v x))
effect_of Op.NOP x y v = kept v.core (size Op.NOP) Nothing
effect_of Op.HLT x y v = jumped v.core v.core.pc
effect_of Op.JMP x y v = jumped v.core x
effect_of Op.JMPR x y v = jumped v.core (reg v x)
effect_of Op.JZ x y v = branched v.core (size Op.JZ) x (get_flag v.core.flags Z)
effect_of Op.JNZ x y v = branched v.core (size Op.JNZ) x (not (get_flag v.core.flags Z))
effect_of Op.CALL x y v = pushed v.core (ahead v.core 2) x
effect_of Op.CALLR x y v = pushed v.core (ahead v.core 2) (reg v x)
effect_of Op.RET x y v = returned v.core v.memory
-- "ADD, SUB, MUL and value forms: d op s, low byte, ZN, C when the exact result is outside 0..255. DIV, MOD: quotient, remainder, ZN, C cleared."
effect_of Op.ADD x y v = resulted v.core (size Op.ADD) x (sum_of (reg v x) (reg v y))
effect_of Op.ADDI x y v = resulted v.core (size Op.ADDI) x (sum_of (reg v x) y)
effect_of Op.SUB x y v = resulted v.core (size Op.SUB) x (difference_of (reg v x) (reg v y))
effect_of Op.SUBI x y v = resulted v.core (size Op.SUBI) x (difference_of (reg v x) y)
effect_of Op.MUL x y v = resulted v.core (size Op.MUL) x (product_of (reg v x) (reg v y))
effect_of Op.MULI x y v = resulted v.core (size Op.MULI) x (product_of (reg v x) y)
effect_of Op.DIV x y v = resulted v.core (size Op.DIV) x (quotient_of (reg v x) (reg v y))
effect_of Op.DIVI x y v = resulted v.core (size Op.DIVI) x (quotient_of (reg v x) y)
effect_of Op.MOD x y v = resulted v.core (size Op.MOD) x (remainder_of (reg v x) (reg v y))
effect_of Op.MODI x y v = resulted v.core (size Op.MODI) x (remainder_of (reg v x) y)
-- "INC, DEC, AND, OR, XOR, NOT: ZN, C kept. CMP: flags of SUB, no register written."
effect_of Op.INC x y v = loaded v.core (size Op.INC) x ((reg v x + 1) % 256)
effect_of Op.DEC x y v = loaded v.core (size Op.DEC) x (wrapped_sub (reg v x) 1)
effect_of Op.AND x y v = loaded v.core (size Op.AND) x (bit_and (reg v x) (reg v y))
effect_of Op.OR x y v = loaded v.core (size Op.OR) x (bit_or (reg v x) (reg v y))
effect_of Op.XOR x y v = loaded v.core (size Op.XOR) x (bit_xor (reg v x) (reg v y))
effect_of Op.NOT x y v = loaded v.core (size Op.NOT) x (255 - reg v x)
effect_of Op.CMP x y v = compared v.core (size Op.CMP) (difference_of (reg v x) (reg v y))
-- "SHL, SHR, ROL, ROR by one: ZN, C the bit that left. Rotations do not pass through C."
effect_of Op.SHL x y v = resulted v.core (size Op.SHL) x (shifted_left (reg v x))
effect_of Op.SHR x y v = resulted v.core (size Op.SHR) x (shifted_right (reg v x))
effect_of Op.ROL x y v = resulted v.core (size Op.ROL) x (rotated_left (reg v x))
effect_of Op.ROR x y v = resulted v.core (size Op.ROR) x (rotated_right (reg v x))

-- What comes before the effect of each.
abbrev pub before_of : Op → ℕ → ℕ → View → Before
before_of Op.HLT x y v = halts
before_of Op.PUSH x y v = full v.core
before_of Op.CALL x y v = full v.core
before_of Op.CALLR x y v = full v.core
before_of Op.POP x y v = empty v.core
before_of Op.RET x y v = empty v.core
before_of Op.DIV x y v = zero_divisor (byte_of Op.DIV) (reg v y)
before_of Op.MOD x y v = zero_divisor (byte_of Op.MOD) (reg v y)
before_of Op.DIVI x y v = zero_divisor (byte_of Op.DIVI) y
before_of Op.MODI x y v = zero_divisor (byte_of Op.MODI) y
before_of Op.IN x y v = dry v.core v.input
before_of Op.PRINT x y v = crowded v.room
before_of Op.NOP x y v = nothing
before_of Op.LDI x y v = nothing
before_of Op.LDA x y v = nothing
before_of Op.LDR x y v = nothing
before_of Op.MOV x y v = nothing
before_of Op.STORE x y v = nothing
before_of Op.ADD x y v = nothing
before_of Op.ADDI x y v = nothing
before_of Op.SUB x y v = nothing
before_of Op.SUBI x y v = nothing
before_of Op.INC x y v = nothing
before_of Op.DEC x y v = nothing
before_of Op.AND x y v = nothing
before_of Op.OR x y v = nothing
before_of Op.XOR x y v = nothing
before_of Op.NOT x y v = nothing
before_of Op.CMP x y v = nothing
before_of Op.SHL x y v = nothing
before_of Op.SHR x y v = nothing
before_of Op.JMP x y v = nothing
before_of Op.JZ x y v = nothing
before_of Op.JNZ x y v = nothing
before_of Op.MUL x y v = nothing
before_of Op.MULI x y v = nothing
before_of Op.ROL x y v = nothing
before_of Op.ROR x y v = nothing
before_of Op.JMPR x y v = nothing
before_of Op.STR x y v = nothing

unfoldable pub fate_of : Op → Operands → View → Fate
fate_of o a v = fate_by (before_of o (first_of a) (second_of a) v) (effect_of o (first_of a) (second_of a) v)
