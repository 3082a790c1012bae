-- An instruction as numbers. A form's number is its place in the table of operands: none 0; register, value 1; register, address 2; register 3;
-- two registers 4; address 5.
use Rattle.std.specs.Prelude.{ℕ, Option, None, Some, cond, List, [], ◌∷◌, eqb}
use Rattle.byte.specs.Flags.{bit}
use Rattle.op.specs.declared.operation.Op.{Op}
use Rattle.op.specs.Operations.{decoded, form_of, length_of}
use Rattle.instruction.specs.Decode.{Decoding, decoded_of}
use Rattle.instruction.specs.Encode.{Encoding, encoded_of, form_number, no_bytes}
use Rattle.instruction.specs.Operands.{first_of, second_of}
use Rattle.instruction.specs.Plain.{is_plain}
use Rattle.host_instruction.specs.Operands.{given}
use Rattle.answer_number.specs.Numbered.{number_of, values_of}

-- after decode: the number, and opcode, form, first operand, second operand, length, and 1 where the bytes are the plain spelling
pub record Parted : Type 0 where
  pub number : ℕ
  pub parts : List ℕ

abbrev pub parted : ℕ → List ℕ → Parted
parted number parts = record { number = number; parts = parts }

-- "3 invalid opcode": the opcode alone, and no more parts
abbrev pub parts_of : Decoding → (opcode two three : ℕ) → Parted
parts_of (Decoding.instruction o a) opcode two three =
    let plain = bit (is_plain o a (opcode ∷ two ∷ three ∷ [])) in
    parted 0 (opcode ∷ form_number (form_of o) ∷ first_of a ∷ second_of a ∷ length_of (form_of o) ∷ plain ∷ [])
parts_of (Decoding.refused answer) opcode two three = parted (number_of answer) (opcode ∷ 0 ∷ 0 ∷ 0 ∷ 0 ∷ 0 ∷ [])

abbrev pub decode_from : (opcode two three : ℕ) → Parted
decode_from opcode two three = parts_of (decoded_of opcode two three) opcode two three

-- "12 operands of another form", and for a number that is no form's
unfoldable pub encode_with : Op → (form first second : ℕ) → Encoding
encode_with o form first second =
    cond (eqb form (form_number (form_of o))) (encoded_of o (given (form_of o) first second)) (no_bytes (12 ∷ []))

-- an opcode that is none: 3 with the opcode, and no bytes (decisions M8, M22)
abbrev pub encode_by : Option Op → (opcode form first second : ℕ) → Encoding
encode_by (Some o) opcode form first second = encode_with o form first second
encode_by None opcode form first second = no_bytes (3 ∷ opcode ∷ [])

-- after encode: the number with its values, three bytes, and how many of them the instruction takes
pub record Coded : Type 0 where
  pub number : ℕ
  pub values : List ℕ
  pub bytes : List ℕ
  pub length : ℕ

abbrev pub coded : ℕ → List ℕ → List ℕ → ℕ → Coded
coded number values bytes length =
    record { number = number; values = values; bytes = bytes; length = length }

abbrev pub coded_of : Encoding → Coded
coded_of e = coded (number_of e.answer) (values_of e.answer) e.bytes e.length

abbrev pub encode_from : (opcode form first second : ℕ) → Coded
encode_from opcode form first second = coded_of (encode_by (decoded opcode) opcode form first second)
