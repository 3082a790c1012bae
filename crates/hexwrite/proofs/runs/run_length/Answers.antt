-- The chain counts as the definition does, and a run is short and ends within the marks.
use Rattle.std.proofs.Common.{◌≡◌, ◌+◌, ◌-◌, ◌*◌, ◌/◌, ◌%◌, not, eqb, take, drop, ◌∙◌, arith, length-drop}
use Rattle.std.proofs.lemmas.List.Folds.{length-prefix_len}
use Rattle.hexwrite.proofs.RunLaws.{run_counted, run_short, run_within}
use Rattle.hexwrite.proofs.runs.run_length.Goals as goal

pub returns-clause-value : goal.returns-clause-value
returns-clause-value c =
    let at = c.args.address in
    let left = drop at c.args.marks.now in
    let cut : (at / 16 + 1) * 16 - at ≡ 16 - at % 16 = omega arith in
    c.set_bytes.ensures
    ∙ length-prefix_len (λ m. not (eqb m 0)) (take ((at / 16 + 1) * 16 - at) left)
    ∙ rw cut (run_counted at left)

pub returns-clause-result_in_bounds : goal.returns-clause-result_in_bounds
returns-clause-result_in_bounds c =
    let left = drop c.args.address c.args.marks.now in
    omega (arith, returns-clause-value c, run_within c.args.address left, length-drop c.args.address c.args.marks.now)

pub returns-clause-upper_bound : goal.returns-clause-upper_bound
returns-clause-upper_bound c = omega (arith, returns-clause-value c, run_short c.args.address (drop c.args.address c.args.marks.now))
