-- The transfer answers for the machine that the record holds.
use Rattle.host_machine.proofs.MachineLaws.{transfer_crosses}
use Rattle.host_machine.proofs.transfer.transfer.Goals as goal

pub returns-clause-machine_after : goal.returns-clause-machine_after
returns-clause-machine_after c =
    let a = c.args in
    transfer_crosses a.machine.now
    c.in-Some.ensures.0
    c.in-Some.ensures.1
    a.image.now
    a.marks.now
    c.if-image-ne256.false
    c.if-marks-ne256.false
    c.transfer-transferred.ensures
    c.transfer_number.ensures
    c.put.ensures.bytes_after
