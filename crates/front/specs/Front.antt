-- What the bytes of a program begin with: "An invalid opcode, or an instruction that the program's end cuts, is .DB and that one byte."
use Rattle.std.specs.Prelude.{ℕ, Bool, cond, List, leb, length, get_or}
use Rattle.op.specs.declared.operation.Op.{Op}
use Rattle.op.specs.Operations.{form_of, length_of}
use Rattle.instruction.specs.declared.operands.Operands.{Operands}
use Rattle.instruction.specs.Decode.{Decoding, instruction, refused, decoded_of}
use Rattle.instruction.specs.Plain.{is_plain}
use Rattle.front.specs.declared.front.Front.{Front}
use Rattle.front.specs.declared.front.Front.TheVariants.{Whole, Alone}

-- an instruction that is there whole
abbrev pub whole : Op → Operands → Bool → Front
whole o a plain = Whole (record { op = o; operands = a; plain = plain })

-- from the instruction that stands first in the bytes; with a whole one goes whether it is in plain spelling
abbrev pub front_by : Decoding → List ℕ → Front
front_by (instruction o a) bytes =
    cond (leb (length_of (form_of o)) (length bytes)) (whole o a (is_plain o a bytes)) (Alone (get_or bytes 0 0))
front_by (refused answer) bytes = Alone (get_or bytes 0 0)

unfoldable pub front_of : List ℕ → Front
front_of bytes = front_by (decoded_of (get_or bytes 0 0) (get_or bytes 1 0) (get_or bytes 2 0)) bytes

-- how many bytes it has
abbrev pub size_of : Front → ℕ
size_of (Whole i) = length_of (form_of i.op)
size_of (Alone byte) = 1
