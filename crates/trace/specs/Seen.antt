-- What the step of a machine below its limit means for a look: what the one private function behind look promises. The cases of 2 and 9 do not occur.
-- Whoever reads what a look is need not read this.
use Rattle.std.specs.Prelude.{ℕ, Option, Some, None, Result, Ok, Err}
use Rattle.nanocore.specs.declared.answer.Completed.{Completed}
use Rattle.nanocore.specs.declared.answer.Completed.TheVariants.{Stepped, Halted}
use Rattle.nanocore.specs.declared.answer.RunRefusal.{RunRefusal}
use Rattle.nanocore.specs.declared.answer.RunRefusal.TheVariants.{LimitReached}
use Rattle.nanocore.specs.declared.answer.StepRefusal.{StepRefusal}
use Rattle.nanocore.specs.declared.answer.StepRefusal.TheVariants.{AlreadyHalted, CountFull}

abbrev pub as_look : Result Completed StepRefusal → ℕ → Option (Result Unit RunRefusal)
as_look (Ok Stepped) limit = None
as_look (Ok Halted) limit = None
as_look (Err AlreadyHalted) limit = Some (Ok tt)
as_look (Err (StepRefusal.Fault f)) limit = Some (Err (RunRefusal.Fault f))
as_look (Err CountFull) limit = Some (Err (LimitReached limit))
