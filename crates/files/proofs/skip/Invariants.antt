-- As long as the count is 0, no turn is done, and nothing is read.
use Rattle.std.proofs.Common.{◌≡◌, []}
use Rattle.std.specs.Io.KnownBytes.{Consumes}
use Rattle.files.proofs.skip.Given as goal

abbrev pub invariant-loop : goal.invariant-loop
invariant-loop g l = l.count ≡ 0 → (l.counter ≡ 0) × Consumes (g.R.Read.remaining l.initial.file) (g.R.Read.remaining l.file) []
