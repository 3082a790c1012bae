-- The digits of bytes spell these bytes, and none of them ends a line.
use mathlib.Core.Path.{◌≡◌, refl}
use mathlib.Core.List.{List, [], ◌∷◌}
use Prim.Native.Nat.{ℕ, ◌+◌, ◌*◌, ◌/◌, ◌%◌}
use native.Mathlib.Omega.{arith}
use borrow.Author.Tests.{lt-ltb}
use Rattle.digits.proofs.DigitLaws.{digit_back, digit_high}
use Rattle.fields.specs.Bytes.{Bytes}
use Rattle.text.proofs.WordLaws.{Above}
use Rattle.hexline.specs.Spelling.{spells, spelled, digits_of}

pub spelled_back : (bs : List ℕ) → Bytes bs → spelled (digits_of bs) ≡ spells bs
unfolding spelled digits_of
spelled_back [] is = refl
spelled_back (b ∷ bs) is =
    let high = digit_back (b / 16) (omega (arith, is.0)) in
    let low = digit_back (b % 16) (omega arith) in
    let whole : b / 16 * 16 + b % 16 ≡ b = omega arith in
    rw (high, low, lt-ltb (b / 16) 16 (omega (arith, is.0)), lt-ltb (b % 16) 16 (omega arith), spelled_back bs is.1, whole)

-- every digit is at least 48: no blank, no line end
pub digits_solid : (bs : List ℕ) → Above 47 (digits_of bs)
unfolding digits_of
digits_solid [] = tt
digits_solid (b ∷ bs) = (omega (arith, digit_high (b / 16)), (omega (arith, digit_high (b % 16)), digits_solid bs))
