-- A line that is written is read as the record that it was made from.
use mathlib.Core.Path.{◌≡◌, refl, ◌∙◌, ap}
use mathlib.Core.List.{List, [], ◌∷◌, ◌++◌}
use Prim.Native.Nat.{ℕ, zero, suc, ◌+◌, ◌*◌, ◌-◌, ◌/◌, ◌%◌, ◌<◌}
use native.Mathlib.Omega.{arith}
use borrow.Author.Tests.{eq-eqb, ne_eqb}
use lib.ListN.{length, get_or, length-append}
use lib.Seq.{take-append_seam}
use Rattle.digits.specs.Digit.{digit_of}
use Rattle.hexline.specs.Line.{front_of, record_of, word_of}
use Rattle.hexline.specs.Row.{fills, ends, row_spelled, row_by, row_of, without_return}
use Rattle.hexline.specs.Spelling.{spelled, digits_of}
use Rattle.hexline.specs.Sum.{total, checksum}
use Rattle.fields.specs.Bytes.{Bytes}
use Rattle.fields.proofs.BytesLaws.{bytes_append}
use Rattle.text.proofs.WordLaws.{Above}
use Rattle.hexlaws.proofs.SpellBack.{spelled_back, digits_solid}

total_append : (a b : List ℕ) → total (a ++ b) ≡ total a + total b
total_append [] b = omega arith
total_append (x ∷ a) b = omega (arith, total_append a b)

no_return : (l : List ℕ) → Above 47 l → (k : ℕ) → get_or l k 0 ≡ 0x0d → ⊥
no_return [] solid k e = omega (arith, e)
no_return (b ∷ l) solid zero e = omega (arith, solid.0, e)
no_return (b ∷ l) solid (suc k) e = no_return l solid.1 k e

whole_line : (l : List ℕ) → Above 47 l → without_return l ≡ l
whole_line l solid = rw (ne_eqb (get_or l (length l - 1) 0) 0x0d (no_return l solid (length l - 1)))

sum_0 : (t : ℕ) → (t + (256 - t % 256) % 256) % 256 ≡ 0
sum_0 t = omega arith

module _ (address : ℕ) (held : List ℕ) (low : address < 65536) (few : length held < 256) (are : Bytes held) where
  record_bytes : Bytes (record_of 0 address held)
  record_bytes =
      bytes_append (front_of 0 address held) (checksum (front_of 0 address held) ∷ []) (few, (omega arith, (omega arith, (omega arith, are)))) (omega arith, tt)

  pub word_solid : Above 47 (word_of 0 address held)
  word_solid = (omega arith, digits_solid (record_of 0 address held))

  record_row : row_by (record_of 0 address held) ≡ fills address held
  unfolding row_by
  record_row =
      let check = checksum (front_of 0 address held) in
      let long : length (record_of 0 address held) ≡ length held + 5 = omega (arith, length-append held (check ∷ [])) in
      let sums : total (record_of 0 address held) % 256 ≡ 0 =
      rw (total_append (front_of 0 address held) (check ∷ [])) (omega (arith, sum_0 (total (front_of 0 address held))))
      in
      let whole : address / 256 * 256 + address % 256 ≡ address = omega arith in
      rw (
        eq-eqb (length (record_of 0 address held)) (length held + 5) long,
        eq-eqb (total (record_of 0 address held) % 256) 0 sums,
        take-append_seam held (check ∷ []),
        whole,
      )

  pub word_row : row_of (word_of 0 address held) ≡ fills address held
  unfolding row_of
  word_row =
      rw (whole_line (word_of 0 address held) word_solid)
      (ap row_spelled (spelled_back (record_of 0 address held) record_bytes) ∙ record_row)

pub end_row : row_of (word_of 1 0 []) ≡ ends
unfolding row_of row_by spelled digits_of digit_of
end_row = refl
