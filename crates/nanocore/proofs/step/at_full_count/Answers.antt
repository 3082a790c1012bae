-- By whether the copy's count rose: 9, or the answer that the instruction has at any count.
use Rattle.nanocore.proofs.RunLaws.{step_rose, step_stayed}
use Rattle.nanocore.proofs.step.at_full_count.Goals as goal

pub returns-then-tried-gt0 : goal.returns-then-tried-gt0
returns-then-tried-gt0 c =
    step_rose _ _ _ _ _ c.requires.0 c.requires.1 _ _ c.used.ensures c.turns-tried.result _ c.turns-tried.ensures c.if-tried-gt0.true

pub returns : goal.returns
returns c =
    step_stayed _ _ _ _ _ c.requires.0 c.requires.1 _ _ c.used.ensures c.turns-tried.result _ c.turns-tried.ensures c.if-tried-gt0.false
