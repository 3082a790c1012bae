-- A step: "tests 2, 3, the instruction's own fault (4 to 8), then 9. Each is given exactly when its line holds and no earlier one does."
use Rattle.std.specs.Prelude.{ℕ, ◌+◌, Bool, true, false, List, [], ◌∷◌, length, ◌==◌, nat_lt, slice_set}
use Rattle.effect.specs.declared.Effect.{Effect}
use Rattle.effect.specs.declared.Write.{Write}
use Rattle.effect.specs.declared.Write.TheVariants.{Nothing, Register, Memory, Output}
use Rattle.effect.specs.Effects.{Fate, done, halt, refused}
use Rattle.turn.specs.Meaning.{View}
use Rattle.turn.specs.Turn.{turn_of}
use Rattle.nanocore.specs.declared.machine.Machine.{Machine}
use Rattle.nanocore.specs.Machine.{most_count}

-- a machine, the place of its input, its output buffer and the number of bytes written there: all that a step may change
pub record Situation : Type 0 where
  pub machine : Machine
  pub place : ℕ
  pub output : List ℕ
  pub written : ℕ

abbrev pub situated : Machine → ℕ → List ℕ → ℕ → Situation
situated m place output written = record { machine = m; place = place; output = output; written = written }

-- the paper's number and values, and what is left
pub record Answered : Type 0 where
  pub answer : List ℕ
  pub after : Situation

-- what the instruction at pc sees; "a place or number at or past the end means none left"
abbrev pub view_of : List ℕ → Situation → View
view_of input s =
    record {
      registers = s.machine.registers;
      memory = s.machine.memory;
      core =
          record {
            pc = s.machine.pc;
            sp = s.machine.sp;
            flags = s.machine.flags;
            place = s.place;
          };
      input = input;
      room = nat_lt s.written (length s.output);
    }

-- where the one write of an effect goes
abbrev pub registers_after : Write → List ℕ → List ℕ
registers_after Nothing rs = rs
registers_after (Register r v) rs = slice_set rs r v
registers_after (Memory a v) rs = rs
registers_after (Output v) rs = rs

abbrev pub memory_after : Write → List ℕ → List ℕ
memory_after Nothing ms = ms
memory_after (Register r v) ms = ms
memory_after (Memory a v) ms = slice_set ms a v
memory_after (Output v) ms = ms

abbrev pub output_after : Write → ℕ → List ℕ → List ℕ
output_after Nothing n out = out
output_after (Register r v) n out = out
output_after (Memory a v) n out = out
output_after (Output v) n out = slice_set out n v

abbrev pub written_after : Write → ℕ → ℕ
written_after Nothing n = n
written_after (Register r v) n = n
written_after (Memory a v) n = n
written_after (Output v) n = n + 1

-- "Any other completed step adds 1 to the count"
abbrev pub applied : Effect → Situation → Situation
applied e s =
    record {
      machine =
          record {
            registers = registers_after e.write s.machine.registers;
            memory = memory_after e.write s.machine.memory;
            pc = e.pc;
            sp = e.sp;
            flags = e.flags;
            halted = s.machine.halted;
            count = s.machine.count + 1;
            limit = s.machine.limit;
          };
      place = e.place;
      output = output_after e.write s.written s.output;
      written = written_after e.write s.written;
    }

-- "HLT sets halted and moves neither pc nor count"
abbrev pub halted_at : Situation → Situation
halted_at s =
    record {
      machine =
          record {
            registers = s.machine.registers;
            memory = s.machine.memory;
            pc = s.machine.pc;
            sp = s.machine.sp;
            flags = s.machine.flags;
            halted = true;
            count = s.machine.count;
            limit = s.machine.limit;
          };
      place = s.place;
      output = s.output;
      written = s.written;
    }

-- "Refusals 2 to 9 leave machine, places and output as found"
abbrev pub refused_at : List ℕ → Situation → Answered
refused_at number s = record { answer = number; after = s }

-- "9: count 65,535 and the step would raise it"
abbrev pub counted : Bool → Effect → Situation → Answered
counted true e s = refused_at (9 ∷ []) s
counted false e s = record { answer = 0 ∷ []; after = applied e s }

abbrev pub settled : Fate → Situation → Answered
settled (refused number) s = refused_at number s
settled halt s = record { answer = 1 ∷ []; after = halted_at s }
settled (done e) s = counted (s.machine.count == most_count) e s

-- "2: already halted (step only)"
abbrev pub unhalted : Bool → Fate → Situation → Answered
unhalted true f s = refused_at (2 ∷ []) s
unhalted false f s = settled f s

unfoldable pub step_of : List ℕ → Situation → Answered
step_of input s = unhalted s.machine.halted (turn_of (view_of input s)) s
