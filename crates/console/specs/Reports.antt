-- What the console has afterwards: what it was told, its own machine, and the bytes of the buffer that it lent.
use Rattle.std.specs.Prelude.{ℕ, List, Result}
use Rattle.nanocore.specs.declared.answer.Completed.{Completed}
use Rattle.nanocore.specs.declared.answer.RunRefusal.{RunRefusal}
use Rattle.nanocore.specs.declared.answer.StepRefusal.{StepRefusal}
use Rattle.nanocore.specs.declared.answer.TooLong.{TooLong}
use Rattle.nanocore.specs.declared.machine.Machine.{Machine}
use Rattle.nanocore.specs.Load.{Loading}
use Rattle.nanocore.specs.Numbers.{load_number, run_number, step_number}
use Rattle.nanocore.specs.Step.{Answered, situated}
use Rattle.console.specs.declared.report.Report.{Report}

abbrev pub stepped : Report (Result Completed StepRefusal) → Machine → List ℕ → Answered
stepped r machine output =
    record { answer = step_number r.answer; after = situated machine r.place output r.written }

abbrev pub ran : Report (Result Unit RunRefusal) → Machine → List ℕ → Answered
ran r machine output =
    record { answer = run_number r.answer; after = situated machine r.place output r.written }

abbrev pub loaded : Result Unit TooLong → Machine → Loading
loaded r machine = record { answer = load_number r; machine = machine }
