-- What a count of bytes at a buffer's start says, and how many bytes a read gave.
use Rattle.std.specs.Prelude.{◌≡◌, ℕ, ◌≤◌, List, length, take, Result, Ok, Err}
use Rattle.std.specs.declared.io.Error.{Error}
use Rattle.files.specs.declared.Cut.{Cut}

-- `&xs[..n]` is in bounds and has n bytes.
abbrev pub IsPrefixLen : ℕ → List ℕ → Type 0
IsPrefixLen n xs = (n ≤ length xs) × (n ≡ length (take n xs))

-- How many bytes a read gave, those before its failure too.
abbrev pub bytes_read : Result ℕ Cut → ℕ
bytes_read (Ok count) = count
bytes_read (Err cut) = cut.count

-- A failure before the first byte.
abbrev pub IsCutAtStart : Error → Cut → Type 0
IsCutAtStart reason cut = (cut.count ≡ 0) × (cut.reason ≡ reason)
