-- At the last arm the byte is none of the forty.
use Rattle.std.proofs.Common.{arith}
use Rattle.op.specs.Operations.{ops}
use Rattle.op.proofs.Laws.{past}
use Rattle.op.proofs.operation.Op.decode.Goals as goal

pub returns-in_default : goal.returns-in_default
returns-in_default c = past ops c.args.value (omega arith)
