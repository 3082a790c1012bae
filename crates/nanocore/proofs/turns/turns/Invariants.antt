-- The turns that are left, from here, come to what all of them come to from the start.
use Rattle.std.proofs.Common.{◌≡◌, ℕ, ◌+◌, ◌-◌, ◌≤◌, false, List, Ok}
use Rattle.effect.specs.declared.moves.Core.{Core}
use Rattle.nanocore.specs.declared.answer.Completed.TheVariants.{Stepped}
use Rattle.nanocore.specs.declared.turns.Tally.{Tally}
use Rattle.nanocore.specs.Machine.{most_count}
use Rattle.nanocore.specs.Numbers.{stepping}
use Rattle.nanocore.specs.Step.{Situation, situated}
use Rattle.nanocore.specs.Turns.{awake, ended_with, turns_of}
use Rattle.nanocore.proofs.turns.turns.Given as goal

-- the situation that the locals make
abbrev pub here : List ℕ → List ℕ → Core → Tally → List ℕ → Situation
here registers memory core tally output =
    (stepping (ended_with (Ok Stepped) registers memory core false tally) output).after

abbrev pub invariant-loop : goal.invariant-loop
invariant-loop l =
    (l.tally.count + (l.most - l.counter) ≤ most_count)
    × (turns_of (l.most - l.counter) l.input (here l.registers l.memory l.core l.tally l.output)
    ≡ turns_of l.fn.most l.input (situated (awake l.fn.machine) l.fn.place l.fn.output l.fn.written))
