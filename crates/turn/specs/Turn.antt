-- One turn: the instruction at pc, and what it comes to.
use Rattle.std.specs.Prelude.{ℕ, ◌+◌, ◌%◌, List, [], ◌∷◌, ◌++◌, slice_index}
use Rattle.effect.specs.Effects.{Fate, refused}
use Rattle.instruction.specs.Decode.{Decoding, decoded_of}
use Rattle.turn.specs.Meaning.{View, fate_of}

-- "Three bytes are fetched at pc, pc+1, pc+2", modulo 256
abbrev pub fetched : List ℕ → ℕ → Decoding
fetched memory pc = decoded_of (slice_index memory pc) (slice_index memory ((pc + 1) % 256)) (slice_index memory ((pc + 2) % 256))

-- an instruction comes to its fate; "3 invalid opcode" comes with the opcode, then pc
abbrev pub fate_at : Decoding → View → Fate
fate_at (Decoding.instruction o a) v = fate_of o a v
fate_at (Decoding.refused f) v = refused (f ++ (v.core.pc ∷ []))

unfoldable pub turn_of : View → Fate
turn_of v = fate_at (fetched v.memory v.core.pc) v
