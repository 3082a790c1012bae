-- A line is laid whole, and what is left is laid behind it.
use Rattle.std.proofs.Common.{refl, sym, ◌∙◌, ap, ◌++◌, length, arith, length-append}
use Rattle.fields.specs.Lay.{laid}
use Rattle.fields.proofs.LaidLaws.{laid_next, laid_whole}
use Rattle.front.specs.Listed.{listed}
use Rattle.row.specs.Left.{lines_left}
use Rattle.listing.proofs.WalkLaws.{joined, joined_lines}
use Rattle.listing.proofs.listing.write.Goals as goal

pub loop-line-init : goal.loop-line-init
loop-line-init c =
    let lines = ap lines_left c.into_iter-line-iterator.ensures.into_iter_gives ∙ c.of-line-items.ensures in
    let all = ap joined lines ∙ joined_lines c.args.program.now c.args.start in
    (omega (arith, ap length all), ap (laid c.args.buffer.now 0) all)

pub loop-line-preserved : goal.loop-line-preserved
loop-line-preserved c =
    let l = c.loop-line in
    let text = c.as_bytes-text.result.now in
    let left = joined (lines_left c.next.new.self) in
    let turn = ap joined c.in-Some.ensures.steps ∙ ap (λ t. t ++ left) (sym c.as_bytes-text.ensures) in (
      omega (arith, simp length-append at (ap length turn), l.invariant.0),
      rw c.lay.ensures (laid_next l.buffer l.place text left refl ∙ sym (ap (laid l.buffer l.place) turn) ∙ l.invariant.1),
    )

pub returns : goal.returns
returns c =
    let l = c.loop-line in
    sym (ap (λ lines. laid l.buffer l.place (joined lines)) c.in-None.ensures.steps.0)
    ∙ l.invariant.1
    ∙ laid_whole c.args.buffer.now (listed c.args.program.now c.args.start) c.requires.start_in_bounds
