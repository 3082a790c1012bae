-- What stands at the place is the first of what is left.
use Rattle.std.proofs.Common.{ap, length, arith}
use Rattle.finding.proofs.LeftLaws.{left_none, left_turn}
use Rattle.finding.proofs.findings.FindingsIterator.next.Goals as goal

pub returns-then-self-clause-steps : goal.returns-then-self-clause-steps
returns-then-self-clause-steps c =
    let none = left_none c.args.self.now.rule.now c.args.self.now.at c.if-self.true in
    (none, none)

pub returns-clause-steps : goal.returns-clause-steps
returns-clause-steps c =
    let found = c.of-finding.ensures in
    left_turn c.args.self.now.rule.now c.args.self.now.at _ found.line_value found.instructions_value found.plain_value
    c.if-self.false found.next_value

pub returns-clause-goes : goal.returns-clause-goes
returns-clause-goes c =
    let found = c.of-finding.ensures in
    let turn = left_turn c.args.self.now.rule.now c.args.self.now.at _ found.line_value found.instructions_value found.plain_value c.if-self.false found.next_value in
    grind (arith, ap length turn)
