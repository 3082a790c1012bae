-- Where the names of a table stand: each is a stretch of the source.
use Rattle.std.specs.Prelude.{ℕ, ◌+◌, ◌<◌, ◌≤◌, List, length, slice_index}
use Rattle.table.specs.declared.labels.Labels.{Labels}

unfoldable pub Inside : List ℕ → Labels → Type 0
Inside source t =
    (i : ℕ) → i < t.count → slice_index t.places i + slice_index t.lengths i ≤ length source
