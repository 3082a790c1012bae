-- A turn adds the length of a run's record, and in the end nothing is left.
use Rattle.std.proofs.Common.{◌≡◌, [], length, length-append, ap, arith, rules}
use Rattle.hexwrite.proofs.LineLaws.{line_length, run_length}
use Rattle.hexwrite.proofs.WalkLaws.{text_rest}
use Rattle.hexwrite.proofs.write.measure.Goals as goal

pub loop-run-init : goal.loop-run-init
loop-run-init c =
    let image = c.args.image.now in
    let marks = c.args.marks.now in
    let at : c.into_iter-run-iterator.result.at ≡ 0 = cc in
    let same : c.into_iter-run-iterator.result.marks.now ≡ marks = cc in
    record {
      can = tt;
      same = same;
      inside = omega arith;
      few = omega arith;
      whole = rw at (omega (arith, simp length-append at (ap length (text_rest image marks)), line_length 1 0 []));
    }

pub loop-run-preserved : goal.loop-run-preserved
loop-run-preserved c =
    let image = c.args.image.now in
    let l = c.loop-run in
    let step = rw l.invariant.same at c.in-Some.ensures.steps in
    let next = step.1 in
    let long : length image ≡ 256 = search rules in
    let size = run_length image c.in-Some.run'.address c.in-Some.run'.count (omega (arith, next.ends, next.inside)) in
    record {
      can = tt;
      same = step.0;
      inside = next.inside;
      few = omega (arith, next.here, next.some, next.ends);
      whole = omega (arith, simp length-append at (ap length (next.left image long)), size);
    }

pub returns : goal.returns
returns c =
    let l = c.loop-run in
    let step = rw l.invariant.same at c.in-None.ensures.steps in
    let long : length c.args.image.now ≡ 256 = search rules in
    omega (arith, ap length (step.1 c.args.image.now long))
