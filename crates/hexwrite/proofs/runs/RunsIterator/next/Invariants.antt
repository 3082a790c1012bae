-- From the place on as much is left to write as there was at first.
use Rattle.std.proofs.Common.{◌≡◌, ℕ, ◌-◌, ◌≤◌, List, length}
use Rattle.hexwrite.specs.Writer.{rest}
use Rattle.hexwrite.proofs.runs.RunsIterator.next.Given as goal

abbrev pub invariant-loop-self : goal.invariant-loop-self
invariant-loop-self l = record {
  same : l.self.marks ≡ l.initial.self.marks;
  behind : l.initial.self.at ≤ l.self.at;
  left : (image : List ℕ) → length image ≡ 256
      → rest image l.initial.self.marks.now l.initial.self.at ≡ rest image l.initial.self.marks.now l.self.at;
}

abbrev pub decreases-loop-self : goal.decreases-loop-self
decreases-loop-self l = 256 - l.self.at
