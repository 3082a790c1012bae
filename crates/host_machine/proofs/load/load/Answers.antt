-- The load answers for the machine that the record holds.
use Rattle.host_machine.proofs.MachineLaws.{load_crosses}
use Rattle.host_machine.proofs.load.load.Goals as goal

pub returns-clause-machine_after : goal.returns-clause-machine_after
returns-clause-machine_after c =
    let a = c.args in
    load_crosses a.machine.now
    c.in-Some.ensures.0
    c.in-Some.ensures.1
    a.values.now
    a.program.now
    a.start
    c.load-loaded.ensures
    c.load_number.ensures
    c.tell.ensures.number
    c.tell.ensures.values_after
    c.tell.ensures.bytes_after
