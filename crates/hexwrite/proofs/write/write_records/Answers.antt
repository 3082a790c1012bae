-- Each line is laid behind what is written, and the last one behind all records.
use Rattle.std.proofs.Common.{◌≡◌, ◌+◌, ◌≤◌, [], ◌++◌, length, take, drop, refl, sym, ap, ◌∙◌, append_assoc, arith, rules}
use Rattle.fields.specs.Lay.{laid}
use Rattle.fields.proofs.LaidLaws.{laid_next, laid_whole}
use Rattle.hexline.specs.Line.{line_of}
use Rattle.hexwrite.specs.Writer.{rest, text_of}
use Rattle.hexwrite.proofs.LineLaws.{run_length, run_holds, end_holds}
use Rattle.hexwrite.proofs.WalkLaws.{text_rest}
use Rattle.hexwrite.proofs.write.write_records.Goals as goal

pub loop-run-init : goal.loop-run-init
loop-run-init c =
    let marks = c.args.marks.now in
    let at : c.into_iter-run-iterator.result.at ≡ 0 = cc in
    let same : c.into_iter-run-iterator.result.marks.now ≡ marks = cc in
    record {
      can = tt;
      same = same;
      inside = omega arith;
      few = omega arith;
      long = refl;
      whole = rw at (sym (ap (laid c.args.buffer.now 0) (text_rest c.args.image.now marks)));
    }

pub overflow_add-place : goal.overflow_add-place
overflow_add-place c =
    let image = c.args.image.now in
    let run = c.in-Some.run' in
    let step = rw c.loop-run.invariant.same at c.in-Some.ensures.steps in
    let next = step.1 in
    let long : length image ≡ 256 = search rules in
    let inside : run.address + run.count ≤ length image = omega (arith, next.ends, next.inside) in
    let line = run_holds image run.address run.count inside next.few c.data_line-line.ensures in
    omega (arith, line.size, run_length image run.address run.count inside, next.few)

pub loop-run-preserved : goal.loop-run-preserved
loop-run-preserved c =
    let image = c.args.image.now in
    let marks = c.args.marks.now in
    let l = c.loop-run in
    let run = c.in-Some.run' in
    let step = rw l.invariant.same at c.in-Some.ensures.steps in
    let next = step.1 in
    let long : length image ≡ 256 = search rules in
    let inside : run.address + run.count ≤ length image = omega (arith, next.ends, next.inside) in
    let size = run_length image run.address run.count inside in
    let line = run_holds image run.address run.count inside next.few c.data_line-line.ensures in
    let left = rest image marks c.next.new.self.at ++ line_of 1 0 [] in
    record {
      can = tt;
      same = step.0;
      inside = next.inside;
      few = omega (arith, next.here, next.some, next.ends, line.size, size);
      long = c.lay.auto.buffer ∙ l.invariant.long;
      whole =
          rw (c.lay.ensures, c.as_bytes.ensures, line.whole)
          (laid_next l.buffer l.place (line_of 0 run.address (take run.count (drop run.address image))) left line.size
          ∙ rw (next.left image long, append_assoc) at l.invariant.whole);
    }

pub returns : goal.returns
returns c =
    let image = c.args.image.now in
    let marks = c.args.marks.now in
    let l = c.loop-run in
    let step = rw l.invariant.same at c.in-None.ensures.steps in
    let long : length image ≡ 256 = search rules in
    let line = end_holds c.end_line.ensures in
    rw (c.lay-2.ensures, c.as_bytes-2.ensures, line.whole)
    (rw (step.1 image long) at l.invariant.whole ∙ laid_whole c.args.buffer.now (text_of image marks) (omega arith))
