-- The listing hides no difference, as callers see it.
use Rattle.std.specs.Prelude.{ℕ, ◌≡◌, List, Ok, take}
use Rattle.fields.specs.Bytes.{Bytes}
use Rattle.fields.specs.Written.{told}
use Rattle.listing.specs.Listing.{listing_of}
use Rattle.listing.specs.Numbers.{list_number}

-- two calls of one start, each accepted, as the promise says it of buffers before and after: where they wrote the same bytes, they were given the
-- same program
abbrev pub CallsTellProgram : Type 0
CallsTellProgram =
    (program other : List ℕ) (start : ℕ) (before after lent left : List ℕ) (n m : ℕ) → Bytes program → Bytes other →
    told (list_number (Ok n)) after ≡ listing_of program start before →
    told (list_number (Ok m)) left ≡ listing_of other start lent →
    take n after ≡ take m left → program ≡ other
