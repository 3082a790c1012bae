-- "Numbers that come back": the paper's number and values for each case of an answer, one definition for each type.
use Rattle.std.specs.Prelude.{ℕ, List, [], ◌∷◌, Result, Ok, Err}
use Rattle.instruction.specs.declared.decode.Instruction.{Instruction}
use Rattle.instruction.specs.declared.decode.InvalidOpcode.{InvalidOpcode}
use Rattle.instruction.specs.declared.encode.Encoded.{Encoded}
use Rattle.instruction.specs.declared.encode.EncodeRefusal.{EncodeRefusal}
use Rattle.instruction.specs.declared.encode.EncodeRefusal.TheVariants.{OtherForm, NoSuchRegister}
use Rattle.instruction.specs.Decode.{Decoding, instruction, refused}
use Rattle.instruction.specs.Encode.{Encoding, no_bytes}
use Rattle.instruction.specs.Plain.{Spelling, spelled, unspelled}

abbrev pub decoding : Result Instruction InvalidOpcode → Decoding
decoding (Ok i) = instruction i.op i.operands
decoding (Err e) = refused (3 ∷ e.opcode ∷ [])

abbrev pub spelling : Result Instruction InvalidOpcode → Spelling
spelling (Ok i) = spelled i.plain
spelling (Err e) = unspelled

abbrev pub encode_number : EncodeRefusal → List ℕ
encode_number OtherForm = 12 ∷ []
encode_number NoSuchRegister = 13 ∷ []

abbrev pub encoding : Result Encoded EncodeRefusal → Encoding
encoding (Ok r) = record { answer = 0 ∷ []; bytes = r.bytes; length = r.length }
encoding (Err e) = no_bytes (encode_number e)
