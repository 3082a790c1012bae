-- So many steps, one after the other, while each answers 0: what the one private loop behind step and run promises. Whoever reads what step and
-- run are need not read this.
use Rattle.std.specs.Prelude.{ℕ, zero, suc, Bool, false, List, [], ◌∷◌, Result, Ok, Err}
use Rattle.turn.specs.Turn.{turn_of}
use Rattle.effect.specs.declared.moves.Core.{Core}
use Rattle.nanocore.specs.declared.answer.Completed.{Completed}
use Rattle.nanocore.specs.declared.answer.Completed.TheVariants.{Stepped, Halted}
use Rattle.nanocore.specs.declared.answer.Outcome.{Outcome}
use Rattle.nanocore.specs.declared.answer.RunRefusal.{RunRefusal}
use Rattle.nanocore.specs.declared.answer.RunRefusal.TheVariants.{LimitReached}
use Rattle.nanocore.specs.declared.answer.StepRefusal.{StepRefusal}
use Rattle.nanocore.specs.declared.answer.StepRefusal.TheVariants.{AlreadyHalted, CountFull}
use Rattle.nanocore.specs.declared.machine.Machine.{Machine}
use Rattle.nanocore.specs.declared.turns.Tally.{Tally}
use Rattle.nanocore.specs.Run.{onward, then}
use Rattle.nanocore.specs.Step.{Situation, Answered, view_of, settled}

-- the machine, halted or not, and at a count
abbrev pub counting : Bool → ℕ → Machine → Machine
counting halted count m =
    record {
      registers = m.registers;
      memory = m.memory;
      pc = m.pc;
      sp = m.sp;
      flags = m.flags;
      halted = halted;
      count = count;
      limit = m.limit;
    }

-- the machine, not halted
abbrev pub awake : Machine → Machine
awake m = counting false m.count m

-- the outcome that the loop's locals make
abbrev pub ended_with : Result Completed StepRefusal → List ℕ → List ℕ → Core → Bool → Tally → Outcome (Result Completed StepRefusal)
ended_with answer registers memory core halted tally =
    record {
      answer = answer;
      machine =
          record {
            registers = registers;
            memory = memory;
            pc = core.pc;
            sp = core.sp;
            flags = core.flags;
            halted = halted;
            count = tally.count;
            limit = tally.limit;
          };
      place = core.place;
      written = tally.written;
    }

unfoldable pub turns_of : ℕ → List ℕ → Situation → Answered
turns_of zero input s = record { answer = 0 ∷ []; after = s }
turns_of (suc k) input s =
    let r = settled (turn_of (view_of input s)) s in
    then (onward r.answer) r (turns_of k input)

-- what the turns up to the limit mean for a run: 10 where the last of them answered 0; the cases of 2 and 9 do not occur
abbrev pub as_run : Result Completed StepRefusal → ℕ → Result Unit RunRefusal
as_run (Ok Stepped) limit = Err (LimitReached limit)
as_run (Ok Halted) limit = Ok tt
as_run (Err AlreadyHalted) limit = Ok tt
as_run (Err (StepRefusal.Fault f)) limit = Err (RunRefusal.Fault f)
as_run (Err CountFull) limit = Err (LimitReached limit)
