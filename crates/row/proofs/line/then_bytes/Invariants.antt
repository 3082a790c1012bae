-- Saying what is left of the bytes behind what is said gives what saying all of them gives.
use Rattle.std.proofs.Common.{◌≡◌, ◌++◌, drop}
use Rattle.digits.specs.Digit.{pair_of}
use Rattle.text.specs.Lines.{appended}
use Rattle.front.specs.Line.{spaced}
use Rattle.row.proofs.line.then_bytes.Given as goal

abbrev pub invariant-loop-b : goal.invariant-loop-b
invariant-loop-b l =
    appended l.line (spaced (λ b. l.lead ++ pair_of b) (drop l.b-index l.bytes)) ≡ appended l.fn.line (spaced (λ b. l.lead ++ pair_of b) l.bytes)
