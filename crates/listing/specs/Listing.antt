-- "Listing of a program at a start address": what a lent buffer holds when it is listed.
use Rattle.std.specs.Prelude.{ℕ, ◌+◌, cond, List, [], ◌∷◌, ltb, length}
use Rattle.fields.specs.Written.{Written, told, written}
use Rattle.front.specs.Listed.{listed}

-- "11: start + length above 256", with length and start; "11 precedes 14"
unfoldable pub listing_of : List ℕ → ℕ → List ℕ → Written
listing_of program start buffer =
    cond (ltb 256 (start + length program))
    (told (11 ∷ length program ∷ start ∷ []) buffer)
    (written (listed program start) buffer)
