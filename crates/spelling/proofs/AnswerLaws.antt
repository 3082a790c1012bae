-- Equal numbers and values: equal answers.
use mathlib.Core.Path.{◌≡◌, sym, ap}
use mathlib.Core.List.{[], ◌∷◌}
use Prim.Native.Nat.{ℕ}
use Rattle.std.specs.Prelude.{Result, Ok, Err}
use Rattle.spelling.specs.declared.check.CheckRefusal.{CheckRefusal}
use Rattle.spelling.specs.declared.check.CheckRefusal.TheVariants.{TooLong, NoRoom}
use Rattle.spelling.specs.Numbers.{check_number, refusal_number}

refusal_number_injective : (e f : CheckRefusal) → refusal_number e ≡ refusal_number f → e ≡ f
refusal_number_injective (TooLong a) (TooLong b) e = cc
refusal_number_injective (TooLong a) (NoRoom b) e = cc
refusal_number_injective (NoRoom a) (TooLong b) e = cc
refusal_number_injective (NoRoom a) (NoRoom b) e = cc

refused : (e : CheckRefusal) (n : ℕ) → refusal_number e ≡ 0 ∷ n ∷ [] → ⊥
refused (TooLong a) n e = cc
refused (NoRoom a) n e = cc

pub check_number_injective : (r s : Result ℕ CheckRefusal) → check_number r ≡ check_number s → r ≡ s
check_number_injective (Ok a) (Ok b) e = cc
check_number_injective (Ok a) (Err f) e = absurd (refused f a (sym e))
check_number_injective (Err f) (Ok b) e = absurd (refused f b e)
check_number_injective (Err f) (Err g) e = ap Err (refusal_number_injective f g e)
