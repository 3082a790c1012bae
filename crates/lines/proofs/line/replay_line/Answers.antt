-- The bytes that were read lie in the buffer.
use Rattle.std.proofs.Common.{◌≡◌, Ok, sym, rules}
use Rattle.std.proofs.Math.Seq.{length-take-le}
use Rattle.digits.proofs.Inside.{bytes_fit}
use Rattle.lines.proofs.line.replay_line.Goals as goal

pub slice_bounds-judged-end : goal.slice_bounds-judged-end
slice_bounds-judged-end c =
    let read : c.unhex.result ≡ Ok c.in_ok-count.count = search rules in
    bytes_fit _ _ _ _ _ c.unhex.ensures read

pub slice_bounds-judged-end-2 : goal.slice_bounds-judged-end-2
slice_bounds-judged-end-2 c =
    let read : c.unhex.result ≡ Ok c.in_ok-count.count = search rules in
    sym (length-take-le _ _ (bytes_fit _ _ _ _ _ c.unhex.ensures read))
