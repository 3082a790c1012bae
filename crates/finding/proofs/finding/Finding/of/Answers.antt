-- The slice is all that is left of the rule, so what its bytes begin with stands at the place; its case and the test
-- pick what is said of it.
use Rattle.std.proofs.Common.{◌≡◌, refl, sym, ◌∙◌, ap, ℕ, ◌+◌, ◌-◌, ◌<◌, ◌≤◌, List, length, take, drop, arith, length-drop}
use Rattle.std.proofs.Math.Seq.{take_all}
use Rattle.front.specs.declared.front.Front.{Front}
use Rattle.front.specs.Front.{front_of, size_of}
use Rattle.front.proofs.FrontLaws.{goes_on}
use Rattle.text.specs.Lines.{appended}
use Rattle.finding.proofs.finding.Finding.of.Goals as goal

module _ (rule : List ℕ) (at : ℕ) {front : Front} (read : front ≡ front_of (take (length rule - at) (drop at rule))) where
  front_there : front ≡ front_of (drop at rule)
  front_there = read ∙ ap front_of (take_all (length rule - at) (drop at rule) (omega (arith, length-drop at rule)))

  next_within : {size : ℕ} → at < length rule → size ≡ size_of front → at + size ≤ length rule
  next_within h e = (goes_on rule at h _ (ap (λ n. at + n) (e ∙ ap size_of front_there))).1

pub slice_bounds-line-end : goal.slice_bounds-line-end
slice_bounds-line-end c =
    let within = next_within c.args.rule.now c.args.at c.of-front.ensures c.requires.at_in_bounds c.size.ensures in
    omega (arith, within)

pub returns-then-found-clause-line_value : goal.returns-then-found-clause-line_value
unfolding appended
returns-then-found-clause-line_value c =
    let e = sym (front_there c.args.rule.now c.args.at c.of-front.ensures) ∙ c.in-Whole.is in
    rw (e, c.if-found.true) refl

pub returns-then-found-clause-next_in_bounds : goal.returns-then-found-clause-next_in_bounds
returns-then-found-clause-next_in_bounds c =
    next_within c.args.rule.now c.args.at c.of-front.ensures c.requires.at_in_bounds c.size.ensures

pub returns-in-Alone-clause-line_value : goal.returns-in-Alone-clause-line_value
unfolding appended
returns-in-Alone-clause-line_value c =
    let e = sym (front_there c.args.rule.now c.args.at c.of-front.ensures) ∙ c.in-Alone.is in
    rw e refl
