-- The chain counts the parts between blanks that are not empty.
use Rattle.std.proofs.Common.{◌∙◌, nat_eq, not, length, rules, tests}
use Rattle.std.proofs.lemmas.Iterator.Consumers.{count_from_yields_List, YieldsList-at, YieldsList-from_filter}
use Rattle.std.proofs.lemmas.Iterator.Splits.{YieldsList-from_slice_split}
use Rattle.scan.specs.Class.{blank, passes}
use Rattle.source.proofs.WordLaws.{words_filled}
use Rattle.source.proofs.word.words.Goals as goal

pub returns : goal.returns
unfolding passes
returns c =
    let line = c.args.line.now in
    count_from_yields_List c.filter.result c.count.result c.count.ensures.ran
    (YieldsList-from_filter _ (λ part. not (nat_eq (length part) 0))
    (YieldsList-at c.filter.ensures.source
    (YieldsList-from_slice_split _ blank line c.split.ensures.rest c.split.ensures.done c.split.ensures.closure (λ x r q k. search (rules, tests))))
    c.filter.ensures.closure
    (λ x r q k. search (rules, tests)))
    ∙ words_filled line
