-- Laying what is left behind what is written gives what laying all lines gives.
use Rattle.std.proofs.Common.{◌≡◌, ◌+◌, length}
use Rattle.fields.specs.Lay.{laid}
use Rattle.front.specs.Listed.{listed}
use Rattle.row.specs.Left.{lines_left}
use Rattle.listing.proofs.WalkLaws.{joined}
use Rattle.listing.proofs.listing.write.Given as goal

abbrev pub invariant-loop-line : goal.invariant-loop-line
invariant-loop-line l =
    (l.place + length (joined (lines_left l.line-iterator)) ≡ length (listed l.program l.start)) ×
    (laid l.buffer l.place (joined (lines_left l.line-iterator)) ≡ laid l.initial.buffer 0 (listed l.program l.start))
