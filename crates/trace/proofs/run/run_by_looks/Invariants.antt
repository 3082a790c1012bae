-- The run from here is the run from the start, and each look that completes a step leaves fewer looks.
use Rattle.std.proofs.Common.{◌≡◌, length}
use Rattle.nanocore.specs.Run.{run_of}
use Rattle.nanocore.specs.Step.{situated}
use Rattle.trace.proofs.LookLaws.{looks}
use Rattle.trace.proofs.run.run_by_looks.Given as goal

abbrev pub invariant-loop-answer : goal.invariant-loop-answer
invariant-loop-answer l =
    (length l.output ≡ length l.fn.output)
    × (run_of l.input (situated l.at l.read l.output l.printed)
    ≡ run_of l.input (situated l.fn.machine l.fn.place l.fn.output l.fn.written))

abbrev pub decreases-loop-answer : goal.decreases-loop-answer
decreases-loop-answer l = looks l.at
