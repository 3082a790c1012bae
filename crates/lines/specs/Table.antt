-- The cases of opcodes, names and flags, as oracle/FORMAT.md lays them out.
use Rattle.std.specs.Prelude.{ℕ, ◌+◌, cond, Option, Some, None, Result, Err, List, [], ◌∷◌, eqb, length, replicate}
use Rattle.byte.specs.Flags.{bit, set_flag, clear_flag, get_flag, zn}
use Rattle.fields.specs.Read.{byte_at, part, stretch}
use Rattle.op.specs.declared.operation.Op.{Op}
use Rattle.op.specs.Operations.{byte_of, decoded, form_of, length_of}
use Rattle.names.specs.Names.{name_of, named}
use Rattle.compare.specs.declared.verdict.Part.TheVariants.{Number}
use Rattle.compare.specs.declared.verdict.Mismatch.{Mismatch}
use Rattle.compare.specs.declared.verdict.Mismatch.TheVariants.{Torn}
use Rattle.compare.specs.Verdict.{parted}

-- "1 where it is an operation's, the byte of that operation, its length, the length of its name, the name's five bytes"
abbrev pub operation_told : Option Op → List ℕ
operation_told (Some o) =
    1 ∷ byte_of o ∷ length_of (form_of o) ∷ length (name_of o) ∷ stretch (name_of o) 0 5
operation_told None = replicate 9 0

abbrev pub opcode_answer : ℕ → List ℕ
opcode_answer value = operation_told (decoded value)

-- "1 where it is an operation's name, and that operation's byte"
abbrev pub name_told : Option Op → List ℕ
name_told (Some o) = 1 ∷ byte_of o ∷ []
name_told None = replicate 2 0

abbrev pub name_answer : List ℕ → List ℕ
name_answer text = name_told (named text)

-- "the flags with the byte's bits set, with them cleared; 1 where one of them is set; the flags updated (Z, N) by the byte as a result"
abbrev pub flags_answer : ℕ → ℕ → List ℕ
flags_answer flags byte =
    set_flag flags byte ∷ clear_flag flags byte ∷ bit (get_flag flags byte) ∷ zn flags byte ∷ []

-- a case of its length is compared behind what was given
abbrev pub behind : ℕ → ℕ → List ℕ → List ℕ → Result (Unit {0}) Mismatch
behind given needed ours case =
    cond (eqb (length case) needed) (parted Number ours (part case given (length case))) (Err (Torn needed))

unfoldable pub opcode_verdict : List ℕ → Result (Unit {0}) Mismatch
opcode_verdict case = behind 1 10 (opcode_answer (byte_at case 0)) case

unfoldable pub name_verdict : List ℕ → Result (Unit {0}) Mismatch
name_verdict case =
    behind
    (1 + byte_at case 0)
    (1 + byte_at case 0 + 2)
    (name_answer (part case 1 (1 + byte_at case 0)))
    case

unfoldable pub flags_verdict : List ℕ → Result (Unit {0}) Mismatch
flags_verdict case = behind 2 6 (flags_answer (byte_at case 0) (byte_at case 1)) case
