-- What stands at a place is measured and counted; nothing wraps, since there is no more than fits.
use Rattle.std.proofs.Common.{◌∙◌, ap, length, arith, length-append}
use Rattle.finding.specs.Left.{findings_left}
use Rattle.spelling.proofs.RoomLaws.{found_few, found_plain, lines_few}
use Rattle.spelling.proofs.WalkLaws.{text_all, instructions_all, plain_all, text_found, instructions_found, plain_found}
use Rattle.spelling.proofs.check.Tally.of.Goals as goal

pub loop-standing-init : goal.loop-standing-init
loop-standing-init c =
    let rule = c.args.rule.now in
    let left = ap findings_left c.into_iter-standing-iterator.ensures.into_iter_gives ∙ c.of-standing-items.ensures in (
      omega (arith, ap length (ap text_all left ∙ text_found rule)),
      omega (arith, ap instructions_all left ∙ instructions_found rule),
      omega (arith, ap plain_all left ∙ plain_found rule),
    )

pub with-tally-requires-clause-lines_fit : goal.with-tally-requires-clause-lines_fit
with-tally-requires-clause-lines_fit c =
    omega (
      arith,
      simp length-append at (ap (λ ss. length (text_all ss)) c.in-Some.ensures.steps),
      c.loop-standing.invariant.0,
      lines_few c.args.rule.now (omega arith),
    )

pub with-tally-requires-clause-instructions_fit : goal.with-tally-requires-clause-instructions_fit
with-tally-requires-clause-instructions_fit c =
    omega (
      arith,
      ap instructions_all c.in-Some.ensures.steps,
      c.loop-standing.invariant.1,
      found_few c.args.rule.now (omega arith),
    )

pub with-tally-requires-clause-plain_fit : goal.with-tally-requires-clause-plain_fit
with-tally-requires-clause-plain_fit c =
    omega (arith, ap plain_all c.in-Some.ensures.steps, c.loop-standing.invariant.2, found_plain c.args.rule.now (omega arith))
