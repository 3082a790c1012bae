-- Equal numbers and values: equal answers.
use mathlib.Core.Path.{◌≡◌, sym, ap}
use mathlib.Core.List.{[], ◌∷◌}
use Prim.Native.Nat.{ℕ}
use Rattle.std.specs.Prelude.{Result, Ok, Err}
use Rattle.listing.specs.declared.listing.ListRefusal.{ListRefusal}
use Rattle.listing.specs.declared.listing.ListRefusal.TheVariants.{TooLong, NoRoom}
use Rattle.listing.specs.Numbers.{list_number, refusal_number}

refusal_number_injective : (e f : ListRefusal) → refusal_number e ≡ refusal_number f → e ≡ f
refusal_number_injective (TooLong a b) (TooLong c d) e = cc
refusal_number_injective (TooLong a b) (NoRoom c) e = cc
refusal_number_injective (NoRoom a) (TooLong b c) e = cc
refusal_number_injective (NoRoom a) (NoRoom b) e = cc

refused : (e : ListRefusal) (n : ℕ) → refusal_number e ≡ 0 ∷ n ∷ [] → ⊥
refused (TooLong a b) n e = cc
refused (NoRoom a) n e = cc

pub list_number_injective : (r s : Result ℕ ListRefusal) → list_number r ≡ list_number s → r ≡ s
list_number_injective (Ok a) (Ok b) e = cc
list_number_injective (Ok a) (Err f) e = absurd (refused f a (sym e))
list_number_injective (Err f) (Ok b) e = absurd (refused f b e)
list_number_injective (Err f) (Err g) e = ap Err (refusal_number_injective f g e)
