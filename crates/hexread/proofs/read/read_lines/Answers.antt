-- What a line's turn comes to, and the lines that follow, are what the whole text does.
use Rattle.std.proofs.Common.{◌+◌, [], sym, ◌∙◌, arith}
use Rattle.std.proofs.lemmas.Bool.Decides.{nat_tests}
use Rattle.std.proofs.lemmas.Result.{err_from_is_err_and}
use Rattle.hexread.specs.File.{lines_from, sheet}
use Rattle.hexread.proofs.LineLaws.{behind_shorter, unclosed, line_here, text_behind, nothing_behind, no_end}
use Rattle.hexread.proofs.read.read_lines.Goals as goal

pub returns-in_default : goal.returns-in_default
returns-in_default c =
    let l = c.loop-rest in
    unclosed l.number (sheet l.sheet.image l.sheet.marks) l.rest.now (grind (arith, nat_tests)) c.in_default.ensures ∙ l.invariant.same

pub returns-in_err-read_line : goal.returns-in_err-read_line
returns-in_err-read_line c =
    let l = c.loop-rest in
    let p = err_from_is_err_and c.from_residual.result c.from_residual.ensures.1 in
    rw (p.1, p.2)
    (line_here l.number (sheet l.sheet.image l.sheet.marks) l.rest.now _ _ c.in-Some.ensures c.in_err-read_line.ensures ∙ l.invariant.same)

pub returns-in-Ended : goal.returns-in-Ended
returns-in-Ended c =
    let l = c.loop-rest in
    let after = c.read_line.new.sheet in
    let turn = rw c.in-Ended.is at c.in_ok-read_line.ensures in
    sym (nothing_behind (sheet after.image after.marks) (λ s. lines_from (l.number + 1) [] s c.in-Some.behind.now) c.in-Some.behind.now (grind (arith, nat_tests)))
    ∙ (line_here l.number (sheet l.sheet.image l.sheet.marks) l.rest.now _ _ c.in-Some.ensures turn ∙ l.invariant.same)

pub returns-in-Ended-2 : goal.returns-in-Ended-2
returns-in-Ended-2 c =
    let l = c.loop-rest in
    let after = c.read_line.new.sheet in
    let turn = rw c.in-Ended-2.is at c.in_ok-read_line.ensures in
    sym (text_behind (sheet after.image after.marks) (λ s. lines_from (l.number + 1) [] s c.in-Some.behind.now) c.in-Some.behind.now (grind (arith, nat_tests)))
    ∙ (line_here l.number (sheet l.sheet.image l.sheet.marks) l.rest.now _ _ c.in-Some.ensures turn ∙ l.invariant.same)

pub loop-rest-preserved : goal.loop-rest-preserved
loop-rest-preserved c =
    let l = c.loop-rest in
    let turn = rw c.in-Goes.is at c.in_ok-read_line.ensures in
    record {
      count = omega (arith, behind_shorter l.rest.now _ _ c.in-Some.ensures);
      same = line_here l.number (sheet l.sheet.image l.sheet.marks) l.rest.now _ _ c.in-Some.ensures turn ∙ l.invariant.same;
    }

pub returns : goal.returns
returns c =
    let l = c.loop-rest in
    no_end l.number (sheet l.sheet.image l.sheet.marks) l.rest.now (grind (arith, nat_tests)) ∙ l.invariant.same
