-- Who lists two programs: from the promise of the routine alone.
use mathlib.Core.Path.{◌≡◌, sym, ◌∙◌, ap}
use mathlib.Core.Bool.{Bool, true, false, cond}
use mathlib.Core.List.{List, [], ◌∷◌}
use Prim.Native.Nat.{ℕ, ◌+◌}
use native.Mathlib.Omega.{arith}
use lib.Dec.{ltb}
use lib.ListN.{length, get_or, take}
use Rattle.fields.specs.Written.{told, written}
use Rattle.fields.proofs.WrittenLaws.{text_first}
use Rattle.front.specs.Listed.{listed}
use Rattle.front.proofs.TextTells.{listing_tells_program}
use Rattle.std.specs.Prelude.{Ok}
use Rattle.listing.specs.Listing.{listing_of}
use Rattle.listing.specs.Numbers.{list_number}
use Rattle.listlaws.specs.Tells.{CallsTellProgram}

-- what an accepted call wrote is the program's text
text_there :
    (program : List ℕ) (start : ℕ) (before after : List ℕ) (n : ℕ) →
    told (list_number (Ok n)) after ≡ listing_of program start before → take n after ≡ listed program start
unfolding listing_of
text_there program start before after n e = by (ltb 256 (start + length program)) e
  where
    by :
        (long : Bool) →
        told (0 ∷ n ∷ []) after
        ≡ cond long (told (11 ∷ length program ∷ start ∷ []) before) (written (listed program start) before) →
        take n after ≡ listed program start
    by true e = absurd (omega (arith, ap (λ w. get_or w.answer 0 0) e))
    by false e = text_first (listed program start) before after n e

pub calls_tell_program : CallsTellProgram
calls_tell_program program other start before after lent left n m is are e f same =
    listing_tells_program program other start is are
    (sym (text_there program start before after n e) ∙ same ∙ text_there other start lent left m f)
