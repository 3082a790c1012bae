-- `all` goes over the places of the name, as the definition does.
use Rattle.std.proofs.Common.{◌+◌, eqb, get_or, ◌∙◌, eq-eqb, rules, tests, arith}
use Rattle.std.proofs.lemmas.Iterator.{YieldsList-from_range}
use Rattle.std.proofs.lemmas.Iterator.Search.{all_from_yields_List}
use Rattle.table.proofs.TableLaws.{alike_all}
use Rattle.table.proofs.entry.same_name.Goals as goal

pub returns-then-n-m : goal.returns-then-n-m
returns-then-n-m c =
    let s = c.args.source.now in
    let a = c.args.a in
    let b = c.args.b in
    let size = c.args.m in
    rw (eq-eqb c.args.n size c.if-n-m.true)
    (all_from_yields_List (λ i. eqb (get_or s (a + i) 0) (get_or s (b + i) 0)) _ _ _ c.all.ensures.ran (YieldsList-from_range 0 size size (cc) (omega arith)) (λ x r q k. search (rules, tests))
    ∙ alike_all s a b size)
