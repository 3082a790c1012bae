-- A halted machine and one at its limit are handed back; any other takes the turns up to its limit.
use Rattle.std.proofs.Common.{sym, arith, rules}
use Rattle.nanocore.proofs.RunLaws.{run_halted, run_full, run_last}
use Rattle.nanocore.proofs.machine.Machine.run.Goals as goal

pub returns-then-self : goal.returns-then-self
returns-then-self c = sym (run_halted _ _ _ c.if-self.true)

pub returns-then-limit-count : goal.returns-then-limit-count
returns-then-limit-count c = sym (run_full _ _ _ (search rules) c.if-limit-count.true)

pub returns : goal.returns
returns c =
    rw c.ended.ensures
    (run_last _ _ _ _ _ c.if-self.false c.turns-last.result _ c.if-limit-count.false (omega arith) c.turns-last.ensures)
