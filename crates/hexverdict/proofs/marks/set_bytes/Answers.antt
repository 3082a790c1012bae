-- The chain counts the marks that are not 0.
use Rattle.std.proofs.Common.{◌≡◌, not, eqb, count_by, ◌∙◌, rules}
use Rattle.hexverdict.proofs.MarkLaws.{counted}
use Rattle.hexverdict.proofs.marks.set_bytes.Goals as goal

pub returns : goal.returns
returns c =
    let marks = c.args.marks.now in
    let set : c.count.result ≡ count_by (λ m. not (eqb m 0)) marks = search rules in
    set ∙ counted marks
