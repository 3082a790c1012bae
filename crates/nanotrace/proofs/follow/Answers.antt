use Rattle.std.proofs.Common.{ap}
use Rattle.nanocore.specs.Step.{situated}
use Rattle.trace.specs.Look.{look_number}
use Rattle.trace.proofs.LookLaws.{look_less}
use Rattle.nanotrace.proofs.follow.Goals as goal

-- the step was completed
pub loop-at-smaller : goal.loop-at-smaller
loop-at-smaller c =
    let at = c.loop-at.at in
    look_less c.args.input.now (situated at.machine at.place c.loop-at.output at.written) c.look-at.ensures (ap look_number c.in-None.is)
