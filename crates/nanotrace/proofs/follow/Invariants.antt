-- Each look that completes a step leaves fewer looks.
use Rattle.trace.proofs.LookLaws.{looks}
use Rattle.nanotrace.proofs.follow.Given as goal

abbrev pub decreases-loop-at : goal.decreases-loop-at
decreases-loop-at l = looks l.at.machine
