-- Equal numbers and values: equal answers. The answer is read off its number and its line.
use mathlib.Core.Path.{◌≡◌, refl, sym, ◌∙◌, ap}
use mathlib.Core.Bool.{cond}
use Prim.Native.Nat.{ℕ}
use lib.Dec.{eqb}
use lib.ListN.{get_or}
use Rattle.std.proofs.Common.{Result, Ok, Err}
use Rattle.hexread.specs.declared.answer.Refusal.{Refusal}
use Rattle.hexread.specs.declared.answer.Refusal.TheVariants.{NoImage, Shape, Checksum, OtherType, PastEnd, SetTwice, NoEnd, TextAfter}
use Rattle.hexread.specs.Numbers.{read_number}

answered : ℕ → ℕ → Result Unit Refusal
answered n line =
    cond (eqb n 0) (Ok tt)
    (Err
    (cond (eqb n 19) NoImage
    (cond (eqb n 20) (Shape line)
    (cond (eqb n 21) (Checksum line)
    (cond (eqb n 22) (OtherType line)
    (cond (eqb n 23) (PastEnd line) (cond (eqb n 24) (SetTwice line) (cond (eqb n 25) NoEnd TextAfter))))))))

read_off : (r : Result Unit Refusal) → answered (get_or (read_number r) 0 0) (get_or (read_number r) 1 0) ≡ r
unfolding answered
read_off (Ok tt) = refl
read_off (Err NoImage) = refl
read_off (Err (Shape line)) = refl
read_off (Err (Checksum line)) = refl
read_off (Err (OtherType line)) = refl
read_off (Err (PastEnd line)) = refl
read_off (Err (SetTwice line)) = refl
read_off (Err NoEnd) = refl
read_off (Err TextAfter) = refl

pub read_number_injective : (r s : Result Unit Refusal) → read_number r ≡ read_number s → r ≡ s
read_number_injective r s e = sym (read_off r) ∙ ap (λ ns. answered (get_or ns 0 0) (get_or ns 1 0)) e ∙ read_off s
