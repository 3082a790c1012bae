-- A halted machine and one at its limit are handed back; any other takes a step.
use Rattle.std.proofs.Common.{sym, arith, rules}
use Rattle.nanocore.specs.Step.{situated}
use Rattle.trace.proofs.LookCases.{look_halted, look_full, look_stepped}
use Rattle.trace.proofs.look.look.Goals as goal

pub returns-then-machine : goal.returns-then-machine
returns-then-machine c =
    let a = c.args in
    sym (look_halted _ (situated a.machine a.place a.output.now a.written) c.if-machine.true)

pub returns-then-limit-count : goal.returns-then-limit-count
returns-then-limit-count c =
    let a = c.args in
    sym (look_full _ (situated a.machine a.place a.output.now a.written) (search rules) (omega arith))

pub returns : goal.returns
returns c =
    let a = c.args in
    rw c.seen.ensures
    (look_stepped
    _
    (situated a.machine a.place a.output.now a.written)
    c.step-stepped.result
    _
    c.if-machine.false
    (omega (arith, c.if-limit-count.false))
    (omega (arith, c.well_formed))
    c.step-stepped.ensures)
