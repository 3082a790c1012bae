-- The chain folds the bytes, and the fold is their sum.
use Rattle.std.proofs.Common.{◌≡◌, ◌+◌, ◌%◌, ◌∙◌, fold, rules}
use Rattle.hexline.proofs.SumLaws.{summed}
use Rattle.hexline.proofs.sum.sum.Goals as goal

pub returns : goal.returns
returns c =
    let bytes = c.args.bytes.now in
    let folded : c.fold.result ≡ fold (λ s b. (s + b) % 256) 0 bytes = search rules in
    folded ∙ summed bytes
