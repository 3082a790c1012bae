-- Demand 3 as callers of step and run see it, whatever was answered: over what they have afterwards, which the promises of the two fix.
use Rattle.std.specs.Prelude.{ℕ, ◌+◌, ◌≤◌, ◌≡◌, List}
use Rattle.nanocore.specs.declared.machine.Machine.{Machine}
use Rattle.nanocore.specs.Step.{Situation, Answered}
use Rattle.steps.specs.Trace.{Reached}
use Rattle.stack.specs.Event.{put, took, stored, event_of, puts, takes, unspent}
use Rattle.stack.specs.Stack.{InRange, Occupied, depth, stack_of}
use Rattle.stack.specs.Demand3.{Latest, WrittenHigh, puts_by, takes_by}

-- the machine before a step, and what its caller has then
pub record StepLeft (m : Machine) (r : Answered) : Type 0 where
  pub range : InRange r.after.machine
  pub number : depth r.after.machine + takes (event_of m r) ≡ depth m + puts (event_of m r)
  pub received : (b : ℕ) → event_of m r ≡ took b → Latest b (stack_of m)
  pub written : (b : ℕ) → event_of m r ≡ put b → WrittenHigh b m.memory r.after.machine.memory
  -- the occupied bytes are those that were, with the one that was put or without the one that was taken, unless STORE or STR wrote one of them
  pub held : ((a : ℕ) → event_of m r ≡ stored a → Occupied m a → ⊥) → stack_of r.after.machine ≡ unspent (event_of m r) (stack_of m)

-- the start of a run, and what it left: the machine after its completed steps, HLT among them, each of which demand 3 speaks of
pub record RunLeft (input : List ℕ) (s t : Situation) : Type 0 where
  pub reached : Reached input s t
  pub range : InRange t.machine
  pub number : depth t.machine + takes_by input s reached.steps ≡ depth s.machine + puts_by input s reached.steps
  pub most : depth t.machine ≤ 21
