-- Each turn is a step of the search through the forty.
use Rattle.std.specs.Str.{bytes_eq}
use Rattle.std.proofs.Common.{◌≡◌, ℕ, List, Bool, None, sym, ◌∙◌, ap, refl, arith}
use Rattle.op.specs.Operations.{decoded}
use Rattle.names.specs.Names.{named, same_text}
use Rattle.names.proofs.NameLaws.{hit, miss, ended, bytes_same_text}
use Rattle.names.proofs.name.from_name.Goals as goal

-- the comparison with a name's bytes, as the definition makes it
compared : (t bytes n : List ℕ) (b : Bool) → bytes ≡ n → b ≡ bytes_eq t bytes → same_text t n ≡ b
compared t bytes n b e h = sym (bytes_same_text t n) ∙ ap (bytes_eq t) (sym e) ∙ sym h

pub loop-value-init : goal.loop-value-init
unfolding named
loop-value-init c = refl

pub returns : goal.returns
returns c =
    let past : 40 ≡ c.loop-value.value = omega (arith, c.loop-value-test.false, c.loop-value.auto.value-end) in
    let none : decoded c.loop-value.value ≡ None = ap decoded (sym past) in
    sym (c.loop-value.invariant ∙ ended _ c.loop-value.value none)

pub returns-in_err-op : goal.returns-in_err-op
returns-in_err-op c =
    c.from_residual.ensures ∙ sym (c.loop-value.invariant ∙ ended _ c.loop-value.value (sym c.in_err-op.ensures))

pub returns-then-eq : goal.returns-then-eq
returns-then-eq c =
    let same = compared _ _ _ _ (c.as_bytes.ensures.value ∙ c.name.ensures) c.if-eq.ensures in
    sym (c.loop-value.invariant ∙ hit _ c.loop-value.value _ (sym c.in_ok-op.ensures) same)

pub loop-value-preserved : goal.loop-value-preserved
loop-value-preserved c =
    let other = compared _ _ _ _ (c.as_bytes.ensures.value ∙ c.name.ensures) c.if-eq.ensures in
    c.loop-value.invariant ∙ miss _ c.loop-value.value _ (sym c.in_ok-op.ensures) other
