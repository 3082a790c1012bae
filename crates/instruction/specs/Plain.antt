-- "whether encoding what it decoded gives the same bytes over the instruction's length": then the bytes are its plain spelling.
use Rattle.std.specs.Prelude.{ℕ, zero, suc, Bool, true, false, cond, ◌&&◌, List, [], ◌∷◌, eqb, ltb}
use Rattle.op.specs.declared.form.Form.{Form}
use Rattle.op.specs.declared.operation.Op.{Op}
use Rattle.op.specs.Operations.{form_of, length_of}
use Rattle.instruction.specs.declared.operands.Operands.{Operands}
use Rattle.instruction.specs.Decode.{Decoding, instruction, refused, decoded_of}
use Rattle.instruction.specs.Encode.{encoded_of}

-- the first so many bytes are the same
abbrev pub same_over : ℕ → List ℕ → List ℕ → Bool
same_over zero s t = true
same_over (suc n) [] t = false
same_over (suc n) (a ∷ s) [] = false
same_over (suc n) (a ∷ s) (b ∷ t) = eqb a b && same_over n s t

abbrev pub is_plain : Op → Operands → List ℕ → Bool
is_plain o a bytes = same_over (length_of (form_of o)) (encoded_of o a).bytes bytes

-- what is said of the spelling: of an instruction whether it is plain, of an invalid opcode nothing
pub data Spelling : Type 0 where
  spelled : Bool → Spelling
  unspelled : Spelling

abbrev pub spelling_by : Decoding → List ℕ → Spelling
spelling_by (instruction o a) bytes = spelled (is_plain o a bytes)
spelling_by (refused answer) bytes = unspelled

unfoldable pub spelling_of : ℕ → ℕ → ℕ → Spelling
spelling_of opcode two three = spelling_by (decoded_of opcode two three) (opcode ∷ two ∷ three ∷ [])

-- the forms that can be unplain at all: those in which a register stands alone in byte two
abbrev pub lone_register : Form → Bool
lone_register Form.None = false
lone_register Form.Reg = true
lone_register Form.RegImm = true
lone_register Form.RegReg = false
lone_register Form.RegAddr = true
lone_register Form.Addr = false

-- and then by its high nibble alone; the law `plain_by_form_lem` says that this is all
abbrev pub plain_by_form : Form → ℕ → Bool
plain_by_form f two = cond (lone_register f) (ltb two 16) true
