-- After some turns, the changes that are left give what all of them give.
use Rattle.std.proofs.Common.{◌≡◌, length}
use Rattle.fields.specs.Lay.{changed as changes}
use Rattle.fields.proofs.lay.changed.Given as goal

abbrev pub invariant-loop-rest : goal.invariant-loop-rest
invariant-loop-rest l = changes l.memory l.rest ≡ changes l.fn.memory l.fn.pairs

abbrev pub decreases-loop-rest : goal.decreases-loop-rest
decreases-loop-rest l = length l.rest
