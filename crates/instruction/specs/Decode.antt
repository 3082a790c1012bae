-- An instruction from its three bytes. "0x28..0xFF are invalid": number 3, with the opcode alone, since a decoder knows no pc (decision M8).
use Rattle.std.specs.Prelude.{ℕ, List, [], ◌∷◌, Option, None, Some}
use Rattle.op.specs.declared.operation.Op.{Op}
use Rattle.op.specs.Operations.{decoded, form_of}
use Rattle.instruction.specs.declared.operands.Operands.{Operands}
use Rattle.instruction.specs.Operands.{operands_of}

-- an instruction, or the paper's number and its values
pub data Decoding : Type 0 where
  instruction : Op → Operands → Decoding
  refused : List ℕ → Decoding

-- from what the opcode stands for
abbrev pub decoding_of : Option Op → ℕ → ℕ → ℕ → Decoding
decoding_of (Some o) opcode two three = instruction o (operands_of (form_of o) two three)
decoding_of None opcode two three = refused (3 ∷ opcode ∷ [])

unfoldable pub decoded_of : ℕ → ℕ → ℕ → Decoding
decoded_of opcode two three = decoding_of (decoded opcode) opcode two three
