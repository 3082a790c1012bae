-- The row of the place is the first of what is left.
use Rattle.std.proofs.Common.{ap, length, arith}
use Rattle.row.proofs.LeftLaws.{left_none, left_turn}
use Rattle.row.proofs.rows.RowsIterator.next.Goals as goal

pub returns-then-self-clause-steps : goal.returns-then-self-clause-steps
returns-then-self-clause-steps c =
    let s = c.args.self.now in
    let none = left_none s.program.now s.start s.at c.if-self.true in
    (none, none)

pub returns-clause-steps : goal.returns-clause-steps
returns-clause-steps c =
    let s = c.args.self.now in
    let row = c.of-row.ensures in
    left_turn s.program.now s.start s.at c.if-self.false row.line_value row.next_value

pub returns-clause-goes : goal.returns-clause-goes
returns-clause-goes c =
    let s = c.args.self.now in
    let row = c.of-row.ensures in
    let turn = left_turn s.program.now s.start s.at c.if-self.false row.line_value row.next_value in
    grind (arith, ap length turn)
