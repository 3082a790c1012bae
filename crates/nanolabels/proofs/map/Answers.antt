-- The names of a mapped source lie in it.
use Rattle.std.proofs.Common.{sym, ap, subst}
use Rattle.labels.specs.Inside.{Inside}
use Rattle.labels.proofs.InsideLaws.{names_inside}
use Rattle.nanolabels.proofs.map.Goals as goal

pub print-requires-clause-inside : goal.print-requires-clause-inside
print-requires-clause-inside c =
    let source = c.args.source.now in
    subst (Inside source) (sym (ap (λ m. m.labels) c.in-Ok.ensures.result_value)) (names_inside source)
