-- "Numbers that come back": the paper's number and values of each case of what step, run, load and transfer answer.
use Rattle.std.specs.Prelude.{ℕ, List, [], ◌∷◌, Result, Ok, Err}
use Rattle.effect.specs.Numbers.{fault_number}
use Rattle.nanocore.specs.declared.answer.Completed.{Completed}
use Rattle.nanocore.specs.declared.answer.Completed.TheVariants.{Stepped, Halted}
use Rattle.nanocore.specs.declared.answer.StepRefusal.{StepRefusal}
use Rattle.nanocore.specs.declared.answer.StepRefusal.TheVariants.{AlreadyHalted, CountFull}
use Rattle.nanocore.specs.declared.answer.RunRefusal.{RunRefusal}
use Rattle.nanocore.specs.declared.answer.RunRefusal.TheVariants.{LimitReached}
use Rattle.nanocore.specs.declared.answer.TooLong.{TooLong}
use Rattle.nanocore.specs.declared.answer.NoImage.{NoImage}
use Rattle.nanocore.specs.declared.answer.Outcome.{Outcome}
use Rattle.nanocore.specs.declared.answer.Handed.{Handed}
use Rattle.nanocore.specs.Load.{Loading}
use Rattle.nanocore.specs.Step.{Answered, situated}
use Rattle.nanocore.specs.Transfer.{Transferring}

abbrev pub step_number : Result Completed StepRefusal → List ℕ
step_number (Ok Stepped) = 0 ∷ []
step_number (Ok Halted) = 1 ∷ []
step_number (Err AlreadyHalted) = 2 ∷ []
step_number (Err (StepRefusal.Fault f)) = fault_number f
step_number (Err CountFull) = 9 ∷ []

abbrev pub run_number : Result Unit RunRefusal → List ℕ
run_number (Ok halted) = 1 ∷ []
run_number (Err (RunRefusal.Fault f)) = fault_number f
run_number (Err (LimitReached limit)) = 10 ∷ limit ∷ []

abbrev pub load_number : Result Unit TooLong → List ℕ
load_number (Ok loaded) = 0 ∷ []
load_number (Err e) = 11 ∷ e.length ∷ e.start ∷ []

abbrev pub transfer_number : Result Unit NoImage → List ℕ
transfer_number (Ok transferred) = 0 ∷ []
transfer_number (Err e) = 19 ∷ []

-- what a caller has afterwards: the outcome, and the bytes of the lent buffer
abbrev pub stepping : Outcome (Result Completed StepRefusal) → List ℕ → Answered
stepping r output =
    record { answer = step_number r.answer; after = situated r.machine r.place output r.written }

abbrev pub running : Outcome (Result Unit RunRefusal) → List ℕ → Answered
running r output =
    record { answer = run_number r.answer; after = situated r.machine r.place output r.written }

abbrev pub loading : Handed (Result Unit TooLong) → Loading
loading r = record { answer = load_number r.answer; machine = r.machine }

abbrev pub transferring : Handed (Result Unit NoImage) → Transferring
transferring r = record { answer = transfer_number r.answer; machine = r.machine }
