-- What demand 3 says of one step.
use mathlib.Core.List.{List}
use Prim.Native.Nat.{ℕ, ◌≤◌}
use native.Mathlib.Omega.{arith}
use Rattle.nanocore.specs.Step.{Situation, step_of}
use Rattle.stack.specs.Event.{event_of}
use Rattle.stack.specs.Stack.{Sized, InRange, stack_of}
use Rattle.stack.specs.Callers.{StepLeft}
use Rattle.stack.proofs.Meets.{step_stacked}
use Rattle.stack.proofs.StackLaws.{moves, gives, held, receives}

pub one_step : (input : List ℕ) (s : Situation) → Sized s.machine → InRange s.machine → StepLeft s.machine (step_of input s)
one_step input s sized range =
    let m = s.machine in
    let n = (step_of input s).after.machine in
    let ev = event_of m (step_of input s) in
    let stacked = step_stacked input s sized in
    let least : 0xea ≤ m.sp = omega (arith, range) in
    let most : m.sp ≤ 0xff = omega (arith, range) in
    let moved = moves m.sp m.memory least most ev n.sp n.memory stacked.0 stacked.1 in
    record {
      range = record { least = omega (arith, moved.0); most = omega (arith, moved.1) };
      number = moved.2;
      received = λ b e.
          record {
            earlier = stack_of n;
            first = receives m.sp m.memory least most sized.memory ev n.sp n.memory stacked.0 stacked.1 b e;
          };
      written = λ b e.
          let given = gives m.sp m.memory least most ev n.sp n.memory stacked.0 stacked.1 b e in
          record {
            address = m.sp;
            least = omega (arith, given.0);
            most = omega arith;
            only = given.1;
          };
      held = λ away.
          held m.sp m.memory least most sized.memory ev n.sp n.memory stacked.0 stacked.1
          (λ a e above within. away a e record { least = omega arith; most = omega arith });
    }
