-- Over a clear byte the walk goes on, and a run is the first of what is left.
use Rattle.std.proofs.Common.{◌≡◌, drop, ap, sym, ◌∙◌, arith}
use Rattle.hexwrite.specs.Writer.{run}
use Rattle.hexwrite.proofs.WalkLaws.{rest_clear, rest_none, rest_run}
use Rattle.hexwrite.proofs.runs.RunsIterator.next.Goals as goal

pub returns-then-count-gt0-clause-steps : goal.returns-then-count-gt0-clause-steps
returns-then-count-gt0-clause-steps c =
    let l = c.loop-self in
    let marks = c.args.self.now.marks.now in
    let same = ap (λ m. m.now) l.invariant.same in
    let found : run l.self.at (drop l.self.at marks) ≡ c.run_length-count.result = rw same at (sym c.run_length-count.ensures.value) in (
      same,
      record {
        here = l.invariant.behind;
        some = c.if-count-gt0.true;
        few = c.run_length-count.ensures.upper_bound;
        ends = omega arith;
        inside = c.run_length-count.ensures.result_in_bounds;
        left = λ image h. l.invariant.left image h ∙ rest_run image marks l.self.at found c.if-count-gt0.true (omega arith);
      },
    )

pub loop-self-preserved : goal.loop-self-preserved
loop-self-preserved c =
    let l = c.loop-self in
    let marks = c.args.self.now.marks.now in
    let same = ap (λ m. m.now) l.invariant.same in
    let found : run l.self.at (drop l.self.at marks) ≡ c.run_length-count.result = rw same at (sym c.run_length-count.ensures.value) in
    record {
      same = l.invariant.same;
      behind = omega arith;
      left = λ image h. l.invariant.left image h ∙ rest_clear image marks l.self.at (omega arith);
    }

pub returns-clause-steps : goal.returns-clause-steps
returns-clause-steps c =
    let l = c.loop-self in (
      ap (λ m. m.now) l.invariant.same,
      λ image h. l.invariant.left image h ∙ rest_none image c.args.self.now.marks.now l.self.at (omega arith),
    )
