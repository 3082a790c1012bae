-- Up to i the lists are alike.
use Rattle.std.proofs.Common.{◌≡◌, ◌≤◌, ◌+◌, length, drop}
use Rattle.std.specs.List.{common_prefix_len}
use Rattle.fields.proofs.apart.alike.Given as goal

abbrev pub invariant-loop-i : goal.invariant-loop-i
invariant-loop-i g l =
    (l.i ≤ length l.b)
    × (common_prefix_len g.T.PartialEq.eq l.a l.b ≡ l.i + common_prefix_len g.T.PartialEq.eq (drop l.i l.a) (drop l.i l.b))
