-- A look that ends tells the run; one that completes a step leaves the same run and fewer looks.
use Rattle.std.proofs.Common.{rules, ◌∙◌, ap}
use Rattle.nanocore.specs.Step.{situated}
use Rattle.trace.specs.Look.{look_number}
use Rattle.trace.proofs.LookLaws.{look_told, look_on, look_less}
use Rattle.trace.proofs.run.run_by_looks.Goals as goal

pub returns-in-Some : goal.returns-in-Some
returns-in-Some c =
    let l = c.loop-answer in
    look_told _ (situated l.at l.read l.output l.printed) c.look-looked.result _ _ c.look-looked.ensures c.in-Some.is ∙ l.invariant.1

pub loop-answer-smaller : goal.loop-answer-smaller
loop-answer-smaller c =
    let l = c.loop-answer in
    look_less _ (situated l.at l.read l.output l.printed) c.look-looked.ensures (ap look_number c.in-None.is)

pub loop-answer-preserved : goal.loop-answer-preserved
loop-answer-preserved c =
    let l = c.loop-answer in (
      search rules,
      look_on _ (situated l.at l.read l.output l.printed) c.look-looked.ensures (ap look_number c.in-None.is) ∙ l.invariant.1,
    )
