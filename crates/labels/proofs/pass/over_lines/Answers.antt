-- Each line is turned as the pass turns it; a refused one ends the pass.
use Rattle.std.proofs.Common.{sym, ap, ◌∙◌, eqb, length, rules, tests, arith, of_calls}
use Rattle.std.proofs.lemmas.Iterator.Consumers.{YieldsList-from_enumerate, YieldsList-turn, YieldsList-end}
use Rattle.std.proofs.lemmas.Iterator.Splits.{YieldsList-from_slice_split}
use Rattle.std.proofs.lemmas.List.{length_push}
use Rattle.std.proofs.lemmas.List.FromFn.{length-enumerate_from}
use Rattle.std.proofs.lemmas.Result.{err_from_is_err_and}
use Rattle.labels.specs.Pass.{goes, ended}
use Rattle.labels.proofs.PassLaws.{parts_of, part_at, bytes_on, parts_bytes, pass_parts, pass_end, line_turned, line_refused}
use Rattle.labels.proofs.pass.over_lines.Goals as goal

pub loop-i-init : goal.loop-i-init
loop-i-init c =
    record {
      can_next = search of_calls;
      is_finite = search of_calls;
      counted = omega arith;
      left = omega (arith, parts_bytes c.args.source.now);
      passes = rw (c.start-stand.ensures.address_value, c.start-stand.ensures.labels_value) (pass_parts c.args.source.now);
    }

pub invariant_of-raw : goal.invariant_of-raw
invariant_of-raw c =
    let l = c.loop-i in
    let source = c.args.source.now in
    let at = part_at source _ _ (YieldsList-turn (YieldsList-from_enumerate (YieldsList-from_slice_split _ (λ b. eqb b 0x0a) source (cc) (cc) (cc) (λ x r q k. search (rules, tests))) (cc)) l.yielded _ l.yielded_by _ _ (c.in-Some.i, c.in-Some.bytes) c.in-Some.is c.next.ensures.steps) in
    let more = bytes_on source (length l.yielded) c.in-Some.i l.place l.stand.address l.stand.labels c.in-Some.bytes.now at in
    record { inside = omega (arith, more) }

pub returns-in_err-after-clause-result_value : goal.returns-in_err-after-clause-result_value
returns-in_err-after-clause-result_value c =
    let l = c.loop-i in
    let source = c.args.source.now in
    let at = part_at source _ _ (YieldsList-turn (YieldsList-from_enumerate (YieldsList-from_slice_split _ (λ b. eqb b 0x0a) source (cc) (cc) (cc) (λ x r q k. search (rules, tests))) (cc)) l.yielded _ l.yielded_by _ _ (c.in-Some.i, c.in-Some.bytes) c.in-Some.is c.next.ensures.steps) in
    let ends = line_refused source (length l.yielded) c.in-Some.i l.place l.stand.address l.stand.labels c.in-Some.bytes.now at _ (sym c.in_err-after.ensures.value) in
    let p = err_from_is_err_and c.from_residual.result c.from_residual.ensures.1 in
    rw (p.1, p.2) (ap ended (sym ends ∙ l.invariant.passes))

pub loop-i-preserved : goal.loop-i-preserved
loop-i-preserved c =
    let l = c.loop-i in
    let source = c.args.source.now in
    let raw = c.in-Some.bytes.now in
    let at = part_at source _ _ (YieldsList-turn (YieldsList-from_enumerate (YieldsList-from_slice_split _ (λ b. eqb b 0x0a) source (cc) (cc) (cc) (λ x r q k. search (rules, tests))) (cc)) l.yielded _ l.yielded_by _ _ (c.in-Some.i, c.in-Some.bytes) c.in-Some.is c.next.ensures.steps) in
    let next = length_push l.yielded (c.in-Some.i, c.in-Some.bytes) in
    let more = bytes_on source (length l.yielded) c.in-Some.i l.place l.stand.address l.stand.labels raw at in
    let turned = line_turned source (length l.yielded) c.in-Some.i l.place l.stand.address l.stand.labels raw at _ (sym c.in_ok-after.ensures.value) in
    record {
      can_next = search of_calls;
      is_finite = search of_calls;
      counted = omega (arith, next);
      left = rw next (omega (arith, more));
      passes = rw next (sym turned ∙ l.invariant.passes);
    }

pub returns-clause-result_value : goal.returns-clause-result_value
returns-clause-result_value c =
    let l = c.loop-i in
    let source = c.args.source.now in
    let all = YieldsList-end (YieldsList-from_enumerate (YieldsList-from_slice_split _ (λ b. eqb b 0x0a) source (cc) (cc) (cc) (λ x r q k. search (rules, tests))) (cc)) l.yielded _ l.yielded_by _ _ c.in-None.is c.next.ensures.steps in
    let behind = pass_end source l.place (length l.yielded) (goes l.stand.address l.stand.labels) (omega (arith, all.1, length-enumerate_from 0 (parts_of source))) in
    ap ended (sym behind ∙ l.invariant.passes)
