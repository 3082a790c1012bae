-- A turn lays one marked byte.
use Rattle.std.proofs.Common.{arith}
use Rattle.std.proofs.Math.ListN.{length-set}
use Rattle.fields.proofs.OverlayLaws.{marked, unmarked}
use Rattle.fields.proofs.overlay.overlay.Goals as goal

pub loop-i-preserved : goal.loop-i-preserved
loop-i-preserved c =
    let l = c.loop-i in
    let image = c.args.image.now in
    let marks = c.args.marks.now in
    grind (arith, length-set, marked l.bytes image marks l.i (omega arith) (omega arith) (omega arith), unmarked l.bytes image marks l.i (omega arith) (omega arith) (omega arith))
