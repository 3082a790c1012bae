-- Demand 3, by recursion on the number of steps: what is put and not yet taken is what is occupied.
use mathlib.Core.Path.{◌≡◌, refl, sym, ◌∙◌, ap}
use mathlib.Core.List.{List}
use Prim.Native.Nat.{ℕ, zero, suc, ◌+◌}
use native.Mathlib.Omega.{arith}
use Rattle.nanocore.specs.Step.{Situation}
use Rattle.steps.specs.Trace.{after_steps}
use Rattle.steps.proofs.Trace.{one_more}
use Rattle.stack.specs.Event.{unspent}
use Rattle.stack.specs.Stack.{Sized, InRange, depth, stack_of}
use Rattle.stack.specs.Demand3.{Demand3, Untouched, machine_at, event_at, puts_by, takes_by, unspent_by}
use Rattle.stack.proofs.Altered.{step_altered, step_sized}
use Rattle.stack.proofs.OneStep.{one_step}

-- what is so of the situation after n steps
record At (input : List ℕ) (s : Situation) (n : ℕ) (t : Situation) : Type 0 where
  pub sized : Sized t.machine
  pub range : InRange t.machine
  pub number : depth t.machine + takes_by input s n ≡ depth s.machine + puts_by input s n
  pub held : Untouched input s n → unspent_by input s n ≡ stack_of t.machine

module _ (input : List ℕ) (s : Situation) (sized : Sized s.machine) (range : InRange s.machine) where
  at : (n : ℕ) → At input s n (after_steps n input s)
  at zero = record { sized = sized; range = range; number = refl; held = λ untouched. refl }
  at (suc n) =
      let so = at n in
      let t = after_steps n input s in
      let next = one_step input t so.sized so.range in
      rw (one_more n input s)
      record {
        sized = step_sized input t so.sized;
        range = next.range;
        number = omega (arith, next.number, so.number);
        held = λ untouched.
            ap (unspent (event_at input s n)) (so.held (λ i h. untouched i (omega arith)))
            ∙ sym (next.held (untouched n (omega arith)));
      }

  pub demand3 : Demand3 input s
  demand3 =
      record {
        range = λ n. (at n).range;
        number = λ n. (at n).number;
        received = λ n untouched b e.
            let latest = (one_step input (after_steps n input s) (at n).sized (at n).range).received b e in
            record { earlier = latest.earlier; first = (at n).held untouched ∙ latest.first };
        written = λ n b e. rw (machine_at, one_more n input s) ((one_step input (after_steps n input s) (at n).sized (at n).range).written b e);
        altered = λ n. rw (machine_at, one_more n input s) (step_altered input (after_steps n input s));
      }
