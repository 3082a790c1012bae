-- The run answers for the machine that the record holds.
use Rattle.nanocore.specs.Run.{run_of}
use Rattle.host_machine.proofs.MachineLaws.{move_crosses}
use Rattle.host_machine.proofs.run.run.Goals as goal

pub returns-clause-written_after : goal.returns-clause-written_after
returns-clause-written_after c =
    let a = c.args in
    move_crosses a.machine.now
    c.in-Some.ensures.0
    c.in-Some.ensures.1
    a.values.now
    (run_of a.input.now)
    a.place.now
    a.output.now
    a.written.now
    c.run-outcome.ensures
    c.run_number.ensures
    c.tell.ensures.number
    c.tell.ensures.values_after
    c.tell.ensures.bytes_after
