-- How many from the start on are the same in two lists.
use Rattle.std.specs.Prelude.{ℕ, List, eqb}
use Rattle.std.specs.List.{common_prefix_len}

abbrev pub alike : List ℕ → List ℕ → ℕ
alike xs ys = common_prefix_len eqb xs ys
