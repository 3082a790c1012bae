-- Each turn says the next byte behind a space.
use Rattle.std.proofs.Common.{ℕ, List, sym, ◌∙◌, ap, ◌+◌, ◌++◌, get_or, drop, drop_of_length-le}
use Rattle.digits.specs.Digit.{pair_of}
use Rattle.text.specs.Lines.{appended}
use Rattle.text.specs.Text.{codes}
use Rattle.text.proofs.LineLaws.{onto}
use Rattle.front.specs.Line.{spaced, then}
use Rattle.front.proofs.SpacedLaws.{spaced_next}
use Rattle.row.proofs.line.then_bytes.Goals as goal

pub loop-b-preserved : goal.loop-b-preserved
loop-b-preserved c =
    let l = c.loop-b in
    let bytes = c.args.bytes.now in
    let lead = c.args.lead.now in
    let said : ℕ → List ℕ = λ b. lead ++ pair_of b in
    let digits = pair_of (get_or bytes l.b-index 0) in
    let begun = c.text-in-loop-b.ensures ∙ onto l.line (codes " ") lead c.text.ensures in
    let put = c.text-line.ensures ∙ ap (appended c.text-in-loop-b.result) c.pair.ensures ∙ onto l.line (then lead) digits begun in
    onto l.line (then (lead ++ digits)) (spaced said (drop (l.b-index + 1) bytes)) put
    ∙ sym (ap (appended l.line) (spaced_next said bytes l.b-index c.loop-b-test.true))
    ∙ l.invariant

pub returns : goal.returns
unfolding appended
returns c = rw (drop_of_length-le _ c.loop-b-test.false) at c.loop-b.invariant
