-- What is counted lies in the text; each turn leaves less to read.
use Rattle.std.proofs.Common.{length, ◌≤◌}
use Rattle.hexes.proofs.escape.plain.Given as goal

abbrev pub invariant-loop-count : goal.invariant-loop-count
invariant-loop-count l = l.count ≤ length l.text

abbrev pub decreases-loop-count : goal.decreases-loop-count
decreases-loop-count l = length l.rest
