-- What is measured, and the length of what is left, make the whole length.
use Rattle.std.proofs.Common.{◌≡◌, ◌+◌, length}
use Rattle.front.specs.Listed.{listed}
use Rattle.row.specs.Left.{lines_left}
use Rattle.listing.proofs.WalkLaws.{joined}
use Rattle.listing.proofs.listing.measure.Given as goal

abbrev pub invariant-loop-line : goal.invariant-loop-line
invariant-loop-line l = l.needed + length (joined (lines_left l.line-iterator)) ≡ length (listed l.program l.start)
