-- The pieces, put one after the other, are the record's digits.
use Rattle.std.proofs.Common.{ap, refl, ◌∙◌, arith}
use Rattle.text.specs.Lines.{appended}
use Rattle.hexline.proofs.LineLaws.{sums_make, pieces_make}
use Rattle.hexline.proofs.line.data_line.Goals as goal

pub returns : goal.returns
returns c =
    let low = c.ranges.address.fits in
    let held = c.args.held.now in
    let last =
    sums_make c.args.address low held c.sum.ensures c.sum-2.ensures refl
    c.wrapping_neg.ensures (omega arith)
    in
    pieces_make c.args.address low held last (c.text.ensures ∙ ap (λ l. appended l _) c.empty.ensures)
    c.digits-begun.ensures c.digits.ensures c.digits-2.ensures c.text-2.ensures
