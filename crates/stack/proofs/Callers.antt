-- What callers of step and run have, from the promises of the two and demand 3.
use mathlib.Core.Path.{◌≡◌, sym, subst}
use mathlib.Core.List.{List}
use Prim.Native.Nat.{ℕ, ◌≤◌}
use Rattle.std.specs.Prelude.{Result}
use native.Mathlib.Omega.{arith}
use Rattle.nanocore.specs.declared.answer.Completed.{Completed}
use Rattle.nanocore.specs.declared.answer.Outcome.{Outcome}
use Rattle.nanocore.specs.declared.answer.RunRefusal.{RunRefusal}
use Rattle.nanocore.specs.declared.answer.StepRefusal.{StepRefusal}
use Rattle.nanocore.specs.declared.machine.Machine.{Machine}
use Rattle.nanocore.specs.Numbers.{stepping, running}
use Rattle.nanocore.specs.Run.{run_of}
use Rattle.nanocore.specs.Step.{Situation, situated, step_of}
use Rattle.steps.proofs.Reached.{run_reached}
use Rattle.stack.specs.Stack.{Sized, InRange, Altered, depth}
use Rattle.stack.specs.Callers.{StepLeft, RunLeft}
use Rattle.stack.proofs.Altered.{step_altered}
use Rattle.stack.proofs.OneStep.{one_step}
use Rattle.stack.proofs.Demand3.{demand3}

-- no machine in range has more than 21 occupied bytes
pub at_most_21 : (m : Machine) → InRange m → depth m ≤ 21
at_most_21 m range = omega (arith, range)

-- demand 3 where a run ends
left : (input : List ℕ) (s : Situation) → Sized s.machine → InRange s.machine → RunLeft input s (run_of input s).after
left input s sized range =
    let own = demand3 input s sized range in
    let reached = run_reached input s in
    let here : InRange (run_of input s).after.machine = rw reached.there (own.range reached.steps) in
    record {
      reached = reached;
      range = here;
      number = rw reached.there (omega (arith, own.number reached.steps));
      most = omega (arith, at_most_21 (run_of input s).after.machine here);
    }

module _ (input : List ℕ) (m : Machine) (place : ℕ) (output : List ℕ) (written : ℕ) (out : List ℕ) where
  -- of every machine, its sp in range or not
  pub step_alters : (r : Outcome (Result Completed StepRefusal)) → stepping r out ≡ step_of input (situated m place output written) → Altered m r.machine
  step_alters r e =
      subst (λ x. Altered m x.after.machine) (sym e) (step_altered input (situated m place output written))

  module _ (sized : Sized m) (range : InRange m) where
    pub step_left : (r : Outcome (Result Completed StepRefusal)) → stepping r out ≡ step_of input (situated m place output written) → StepLeft m (stepping r out)
    step_left r e = rw e (one_step input (situated m place output written) sized range)

    pub run_left :
        (r : Outcome (Result Unit RunRefusal)) → running r out ≡ run_of input (situated m place output written) →
        RunLeft input (situated m place output written) (running r out).after
    run_left r e =
        let s = situated m place output written in
        subst (λ x. RunLeft input s x.after) (sym e) (left input s sized range)
