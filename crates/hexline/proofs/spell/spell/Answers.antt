-- A turn spells one byte; a lone digit, or what is no digit, spells nothing.
use Rattle.std.proofs.Common.{ap, ◌∙◌, arith}
use Rattle.std.proofs.lemmas.Bool.Decides.{nat_tests}
use Rattle.hexline.specs.Code.{spelling}
use Rattle.hexline.proofs.SpellLaws.{ended, lone, high_none, low_none, onward}
use Rattle.hexline.proofs.spell.spell.Goals as goal

pub returns-in_err-digit : goal.returns-in_err-digit
returns-in_err-digit c =
    let l = c.loop-rest in
    ap spelling c.from_residual.ensures ∙ high_none l.rest.now (omega arith) l.invariant c.in_err-digit.ensures

pub returns-in_err-bytes : goal.returns-in_err-bytes
returns-in_err-bytes c =
    let l = c.loop-rest in
    ap spelling c.from_residual-in_err-bytes.ensures ∙ low_none l.rest.now (omega arith) l.invariant c.in_err-bytes.ensures

pub loop-rest-preserved : goal.loop-rest-preserved
loop-rest-preserved c =
    let l = c.loop-rest in
    let high = c.in_ok-digit.ensures in
    let low = c.in_ok-bytes.ensures in
    onward l.rest.now (omega arith) l.invariant high.1 low.1 high.0 low.0 (omega arith)

pub returns-then-is_empty : goal.returns-then-is_empty
returns-then-is_empty c = let l = c.loop-rest in ended l.rest.now l.invariant (grind (arith, nat_tests))

pub returns-else-is_empty : goal.returns-else-is_empty
returns-else-is_empty c = let l = c.loop-rest in lone l.rest.now l.invariant (grind (arith, nat_tests))
