-- A line is measured, and what is left is what the next call gives; nothing wraps, since there is no more than fits.
use Rattle.std.proofs.Common.{◌∙◌, ap, length, arith, length-append}
use Rattle.row.specs.Left.{lines_left}
use Rattle.listing.proofs.RoomLaws.{listing_fits}
use Rattle.listing.proofs.WalkLaws.{joined, joined_lines}
use Rattle.listing.proofs.listing.measure.Goals as goal

pub loop-line-init : goal.loop-line-init
loop-line-init c =
    let all = ap lines_left c.into_iter-line-iterator.ensures.into_iter_gives ∙ c.of-line-items.ensures in
    omega (arith, ap length (ap joined all ∙ joined_lines c.args.program.now c.args.start))

pub overflow_add-needed : goal.overflow_add-needed
overflow_add-needed c =
    omega (
      arith,
      ap length c.as_bytes.ensures,
      simp length-append at (ap (λ lines. length (joined lines)) c.in-Some.ensures.steps),
      c.loop-line.invariant,
      listing_fits c.args.program.now c.args.start (omega arith),
    )
