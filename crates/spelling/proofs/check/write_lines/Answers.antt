-- The line that is said is laid whole, and what is left is laid behind it.
use Rattle.std.proofs.Common.{refl, sym, ◌∙◌, ap, ◌++◌, length, arith, length-append}
use Rattle.fields.specs.Lay.{laid}
use Rattle.fields.proofs.LaidLaws.{laid_next, laid_whole}
use Rattle.finding.specs.Left.{findings_left}
use Rattle.finding.specs.Line.{lines_of}
use Rattle.finding.specs.Standing.{said_by}
use Rattle.spelling.specs.Check.{found}
use Rattle.spelling.proofs.WalkLaws.{text_all, text_found}
use Rattle.spelling.proofs.check.write_lines.Goals as goal

pub loop-standing-init : goal.loop-standing-init
loop-standing-init c =
    let left = ap findings_left c.into_iter-standing-iterator.ensures.into_iter_gives ∙ c.of-standing-items.ensures in
    let all = ap text_all left ∙ text_found c.args.rule.now in
    (omega (arith, ap length all), refl, ap (laid c.args.buffer.now 0) all)

pub loop-standing-preserved-in-Unplain : goal.loop-standing-preserved-in-Unplain
loop-standing-preserved-in-Unplain c =
    let l = c.loop-standing in
    let text = c.as_bytes-text.result.now in
    let left = text_all (findings_left c.next.new.self) in
    let turn =
    ap text_all c.in-Some.ensures.steps
    ∙ ap (λ s. (said_by s).text ++ left) c.in-Unplain.is
    ∙ ap (λ t. t ++ left) (sym c.as_bytes-text.ensures) in (
      omega (arith, simp length-append at (ap length turn), l.invariant.0),
      c.lay.auto.buffer ∙ l.invariant.1,
      rw c.lay.ensures (laid_next l.buffer l.place text left refl ∙ sym (ap (laid l.buffer l.place) turn) ∙ l.invariant.2),
    )

pub returns : goal.returns
returns c =
    let l = c.loop-standing in
    sym (ap (λ ss. laid l.buffer l.place (text_all ss)) c.in-None.ensures.steps.0)
    ∙ l.invariant.2
    ∙ laid_whole c.args.buffer.now (lines_of (found c.args.rule.now)) c.requires.rule_in_bounds
