-- What is left of a stretch of the raw line is a stretch of the raw line, and begins where its first byte besides
-- blanks stands.
use Rattle.std.proofs.Common.{◌≡◌, sym, ◌∙◌, ap, ◌+◌, ◌-◌, take, drop, arith}
use Rattle.scan.specs.declared.class.Class.TheVariants.{Solid}
use Rattle.source.specs.Line.{line_of, trimmed, cut}
use Rattle.source.proofs.LineLaws.{stretch, within, begins_there}
use Rattle.source.proofs.line.line.Goals as goal

pub returns-clause-raw_value : goal.returns-clause-raw_value
unfolding line_of
returns-clause-raw_value c =
    let raw = c.args.raw.now in
    let t = c.trim-whole in
    let r = c.trim-rest in
    let f = t.result.from in
    let k = t.result.to - f in
    let e = c.first-end.result in
    let a = r.result.from in
    let n = r.result.to - a in
    let in-it = within raw f t.result.to e r.result.to t.ensures.from_le_to t.ensures.to_in_bounds c.first-end.ensures.upper_bound r.ensures.to_in_bounds in
    let size : f + r.result.to - (f + a) ≡ n = omega arith in
    let text : take n (drop (f + a) raw) ≡ trimmed (cut (trimmed raw)) =
    sym (stretch n a e k f raw (omega (arith, in-it.0, r.ensures.from_le_to)) in-it.1)
    ∙ (r.ensures.text_value
    ∙ ap trimmed (ap (λ i. take i (take k (drop f raw))) c.first-end.ensures.value ∙ ap cut t.ensures.text_value)) in
    rw size text

pub returns-clause-from_value : goal.returns-clause-from_value
returns-clause-from_value c =
    let t = c.trim-whole in
    let solid =
    begins_there Solid c.args.raw.now t.result.from c.first-end.result (t.result.to - t.result.from) t.ensures.from_value in
    omega (arith, c.trim-rest.ensures.from_value, solid, t.ensures.from_value)
