-- A halted machine is handed back; one at the largest count has its own function; any other takes one turn.
use Rattle.std.proofs.Common.{◌∙◌}
use Rattle.nanocore.specs.Step.{step_of}
use Rattle.nanocore.proofs.RunLaws.{step_turns}
use Rattle.nanocore.proofs.machine.Machine.step.Goals as goal

pub returns-then-self : goal.returns-then-self
unfolding step_of
returns-then-self c = rw c.if-self.true

pub returns : goal.returns
returns c = c.turns.ensures ∙ step_turns _ _ _ _ _ c.if-self.false
