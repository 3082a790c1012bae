-- Equal numbers and values: equal answers.
use mathlib.Core.Path.{◌≡◌, refl}
use Prim.Native.Nat.{ℕ}
use Rattle.std.proofs.Common.{Result, Ok, Err}
use Rattle.hexwrite.specs.declared.write.WriteRefusal.{WriteRefusal}
use Rattle.hexwrite.specs.declared.write.WriteRefusal.TheVariants.{NoImage, NoRoom}
use Rattle.hexwrite.specs.Numbers.{write_number}

pub write_number_injective : (r s : Result ℕ WriteRefusal) → write_number r ≡ write_number s → r ≡ s
write_number_injective (Ok a) (Ok b) e = cc
write_number_injective (Ok a) (Err NoImage) e = cc
write_number_injective (Ok a) (Err (NoRoom b)) e = cc
write_number_injective (Err NoImage) (Ok a) e = cc
write_number_injective (Err NoImage) (Err NoImage) e = refl
write_number_injective (Err NoImage) (Err (NoRoom a)) e = cc
write_number_injective (Err (NoRoom a)) (Ok b) e = cc
write_number_injective (Err (NoRoom a)) (Err NoImage) e = cc
write_number_injective (Err (NoRoom a)) (Err (NoRoom b)) e = cc
