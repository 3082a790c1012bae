-- The case of a step, a run or a load, as oracle/FORMAT.md lays it out.
use Rattle.std.specs.Prelude.{ℕ, ◌+◌, ◌*◌, ◌%◌, Bool, true, cond, ◌&&◌, List, [], ◌∷◌, Result, Err, eqb, leb, length, take, replicate}
use Rattle.fields.specs.Lay.{changed, laid}
use Rattle.fields.specs.Read.{byte_at, word_at, part, stretch}
use Rattle.nanocore.specs.declared.machine.Machine.{Machine}
use Rattle.nanocore.specs.Step.{Answered}
use Rattle.answers.specs.declared.answer.Answer.{Answer}
use Rattle.answers.specs.declared.answer.Kind.{Kind}
use Rattle.answers.specs.declared.answer.Kind.TheVariants.{Step, Run, Load}
use Rattle.replay.specs.declared.case.Lent.{Lent}
use Rattle.replay.specs.declared.case.Shape.{Shape}
use Rattle.compare.specs.declared.verdict.Part.TheVariants.{Number, Register, Memory, Output}
use Rattle.compare.specs.declared.verdict.Mismatch.{Mismatch}
use Rattle.compare.specs.declared.verdict.Mismatch.TheVariants.{Torn, Unfit}
use Rattle.answers.specs.Answer.{answered, answer_of}
use Rattle.compare.specs.Verdict.{parted, or_else}

-- Given: pc 0, sp 1, flags 2, halted 3; count 4, limit 8; registers 12; place 28, written 32, room 36; input length 40, changes 44; then at 48 the
-- changes, and the input. Answered, from where that ends: number 0, values 1 and 5; pc 9, sp 10, flags 11, halted 12; count 13, limit 17;
-- registers 21; place 37, written 41; output length 45, changes 49; then at 53 the changes, and the output.
abbrev pub input_at : List ℕ → ℕ
input_at case = 48 + 2 * word_at case 44

abbrev pub answer_at : List ℕ → ℕ
answer_at case = input_at case + word_at case 40

abbrev pub output_at : List ℕ → ℕ
output_at case = answer_at case + 53 + 2 * word_at case (answer_at case + 49)

unfoldable pub shape_of : List ℕ → Shape
shape_of case =
    record {
      input = input_at case;
      answer = answer_at case;
      output = output_at case;
      end = output_at case + word_at case (answer_at case + 45);
    }

-- "halted is 0 or 1", count and limit "at most 65,535", room "at most 4,096"; "for `load` the place is the start address, at most 255"
abbrev pub start_fits : Kind → List ℕ → Bool
start_fits Step case = true
start_fits Run case = true
start_fits Load case = leb (word_at case 28) 255

unfoldable pub fits : Kind → List ℕ → Bool
fits kind case =
    leb (byte_at case 3) 1 && leb (word_at case 4) 65535 && leb (word_at case 8) 65535 && leb (word_at case 36) 4096
    && start_fits kind case

-- the machine that was given; count and limit are as they stand, where the case fits
abbrev pub given_by : List ℕ → List ℕ → List ℕ → Machine
given_by case registers memory =
    record {
      registers = registers;
      memory = memory;
      pc = byte_at case 0;
      sp = byte_at case 1;
      flags = byte_at case 2;
      halted = eqb (byte_at case 3) 1;
      count = word_at case 4 % 65536;
      limit = word_at case 8 % 65536;
    }

-- the answer that the case has
abbrev pub recorded_by : List ℕ → List ℕ → List ℕ → Answer
recorded_by answer registers memory =
    record {
      numbers =
          byte_at answer 0 ∷ word_at answer 1 ∷ word_at answer 5 ∷ byte_at answer 9 ∷ byte_at answer 10 ∷ byte_at answer 11
          ∷ byte_at answer 12
          ∷ word_at answer 13
          ∷ word_at answer 17
          ∷ word_at answer 37
          ∷ word_at answer 41
          ∷ [];
      registers = registers;
      memory = memory;
    }

-- "The output buffer holds 0xA5 in every byte beforehand"
unfoldable pub pattern : List ℕ
pattern = replicate 4096 0xa5

-- everything that a caller sees: numbers, registers, memory, and every byte of the output buffer
unfoldable pub compared : Answer → Answer → List ℕ → List ℕ → Result (Unit {0}) Mismatch
compared ours theirs output expected =
    or_else
    (parted Number ours.numbers theirs.numbers)
    (or_else
    (parted Register ours.registers theirs.registers)
    (or_else (parted Memory ours.memory theirs.memory) (parted Output output expected)))

unfoldable pub against : Answered → Answer → List ℕ → Result (Unit {0}) Mismatch
against r theirs expected = compared (answer_of r) theirs r.after.output expected

-- what the machine of document 01 answers, against the answer of the case; the printed bytes "stand in the buffer from the number given on"
unfoldable pub played : Kind → Machine → List ℕ → Lent → Answer → List ℕ → Result (Unit {0}) Mismatch
played kind machine input lent theirs printed =
    against
    (answered kind machine input lent.place (take lent.room pattern) lent.written)
    theirs
    (laid (take lent.room pattern) lent.written printed)

-- "the memory is 0 but for these", and afterwards as given "but for these"
unfoldable pub zeros : List ℕ
zeros = replicate 256 0

abbrev pub memory_of : List ℕ → Shape → List ℕ
memory_of case shape = changed zeros (part case 48 shape.input)

unfoldable pub replayed : Kind → List ℕ → Shape → Result (Unit {0}) Mismatch
replayed kind case shape =
    played
    kind
    (given_by case (stretch (part case 12 28) 0 16) (memory_of case shape))
    (part case shape.input shape.answer)
    (record { place = word_at case 28; written = word_at case 32; room = word_at case 36 })
    (recorded_by
    (part case shape.answer (length case))
    (stretch (part case (shape.answer + 21) (shape.answer + 37)) 0 16)
    (changed (memory_of case shape) (part case (shape.answer + 53) shape.output)))
    (part case shape.output (length case))

-- a case that is not whole is told by its length, one that does not fit is told as such, and every other is compared
unfoldable pub verdict_of : Kind → List ℕ → Result (Unit {0}) Mismatch
verdict_of kind case =
    cond
    (eqb (length case) (shape_of case).end)
    (cond (fits kind case) (replayed kind case (shape_of case)) (Err Unfit))
    (Err (Torn (shape_of case).end))
