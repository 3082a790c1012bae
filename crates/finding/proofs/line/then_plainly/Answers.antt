-- What encode gives is the definition's, and there is room for three bytes; where it refuses there are none.
use Rattle.std.proofs.Common.{refl, arith}
use Rattle.text.specs.Lines.{appended}
use Rattle.finding.proofs.RoomLaws.{encoded_within}
use Rattle.finding.proofs.line.then_plainly.Goals as goal

pub shared_ref_as_front-then_bytes : goal.shared_ref_as_front-then_bytes
shared_ref_as_front-then_bytes c =
    omega (arith, c.from.ensures, (encoded_within c.args.op c.args.operands c.in-Ok.ensures).0)

pub returns-in-Err : goal.returns-in-Err
unfolding appended
returns-in-Err c = rw (← c.in-Err.ensures) refl
