-- What a step, a run or a load answers, as numbers and bytes that can be compared one by one.
use Rattle.std.specs.Prelude.{ℕ, ◌%◌, List, [], ◌∷◌}
use Rattle.answer_number.specs.declared.Numbered.{Numbered}
use Rattle.answer_number.specs.Numbered.{numbered}
use Rattle.byte.specs.Flags.{bit}
use Rattle.nanocore.specs.declared.machine.Machine.{Machine}
use Rattle.nanocore.specs.Load.{Loading, load_of}
use Rattle.nanocore.specs.Run.{run_of}
use Rattle.nanocore.specs.Step.{Answered, situated, step_of}
use Rattle.answers.specs.declared.answer.Answer.{Answer}
use Rattle.answers.specs.declared.answer.Kind.{Kind}
use Rattle.answers.specs.declared.answer.Kind.TheVariants.{Step, Run, Load}

-- all that a caller has afterwards, but for the output
abbrev pub answer_by : Numbered → Machine → ℕ → ℕ → Answer
answer_by n m place written =
    record {
      numbers =
          n.number ∷ n.first ∷ n.second ∷ m.pc ∷ m.sp ∷ m.flags ∷ bit m.halted ∷ m.count ∷ m.limit ∷ place
          ∷ written
          ∷ [];
      registers = m.registers;
      memory = m.memory;
    }

abbrev pub answer_of : Answered → Answer
answer_of r = answer_by (numbered r.answer) r.after.machine r.after.place r.after.written

-- a load leaves place, output and number as they were
abbrev pub loaded_with : Loading → ℕ → List ℕ → ℕ → Answered
loaded_with l place output written =
    record { answer = l.answer; after = situated l.machine place output written }

-- "For `load` the place is the start address"
abbrev pub answered : Kind → Machine → List ℕ → ℕ → List ℕ → ℕ → Answered
answered Step m input place output written = step_of input (situated m place output written)
answered Run m input place output written = run_of input (situated m place output written)
answered Load m input place output written = loaded_with (load_of m input (place % 256)) place output written
