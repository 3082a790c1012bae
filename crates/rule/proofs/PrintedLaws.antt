-- A run that begins with nothing printed prints no more than the buffer holds.
use mathlib.Core.Path.{◌≡◌, subst, sym}
use mathlib.Core.List.{List}
use Prim.Native.Nat.{◌≤◌, zero-le}
use lib.ListN.{length}
use Rattle.nanocore.specs.declared.answer.Outcome.{Outcome}
use Rattle.nanocore.specs.declared.answer.RunRefusal.{RunRefusal}
use Rattle.nanocore.specs.declared.machine.Machine.{Machine}
use Rattle.nanocore.specs.Numbers.{running}
use Rattle.nanocore.specs.Run.{run_of}
use Rattle.nanocore.specs.Step.{Answered, situated}
use Rattle.std.specs.Prelude.{ℕ, Result}
use Rattle.steps.proofs.OutputLaws.{run_printed}

abbrev within : Answered → Type 0
within r = r.after.written ≤ length r.after.output

pub printed_within :
    (r : Outcome (Result Unit RunRefusal)) (input output out : List ℕ) (m : Machine) →
    running r out ≡ run_of input (situated m 0 output 0) → r.written ≤ length out
printed_within r input output out m e =
    subst within (sym e) ((run_printed input (situated m 0 output 0)).inside zero-le)
