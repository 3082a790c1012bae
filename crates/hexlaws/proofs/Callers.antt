-- Who writes an image and reads what was written: from the promises of the two routines alone.
use mathlib.Core.Path.{◌≡◌, ◌∙◌, ap}
use mathlib.Core.List.{List}
use Prim.Native.Nat.{ℕ}
use borrow.Author.Tests.{eq-eqb}
use lib.ListN.{length, take}
use Rattle.fields.specs.Overlay.{overlaid}
use Rattle.fields.specs.Bytes.{Bytes}
use Rattle.fields.specs.Written.{told as wrote}
use Rattle.fields.proofs.WrittenLaws.{text_first}
use Rattle.std.proofs.Common.{Result, Ok}
use Rattle.hexread.specs.declared.answer.Refusal.{Refusal}
use Rattle.hexread.specs.File.{reading_of, told}
use Rattle.hexread.specs.Numbers.{read_number}
use Rattle.hexread.proofs.AnswerLaws.{read_number_injective}
use Rattle.hexwrite.specs.Numbers.{write_number}
use Rattle.hexwrite.specs.Writer.{text_of, writing_of}
use Rattle.hexlaws.specs.Back.{ones_of}
use Rattle.hexlaws.proofs.RoundTrip.{read_written}

module _
    (image marks : List ℕ) (image-long : length image ≡ 256) (marks-long : length marks ≡ 256) (are : Bytes image)
    (buffer after : List ℕ) (n : ℕ) (writes : wrote (write_number (Ok n)) after ≡ writing_of image marks buffer)
    (other found : List ℕ) (other-long : length other ≡ 256) (found-long : length found ≡ 256) where
  text_there : take n after ≡ text_of image marks
  unfolding writing_of
  text_there =
      text_first (text_of image marks) buffer after n
      (rw (eq-eqb (length image) 256 image-long, eq-eqb (length marks) 256 marks-long) at writes)

  -- the reading is accepted, the other image has the marked bytes and keeps its own, and the marks are those that were written
  pub written_then_read :
      (r : Result Unit Refusal) (image' marks' : List ℕ) → told (read_number r) image' marks' ≡ reading_of (take n after) other found →
      (r ≡ Ok tt) × (image' ≡ overlaid other image marks) × (marks' ≡ ones_of marks)
  written_then_read r image' marks' reads =
      let back = rw text_there at reads ∙ read_written image marks other found image-long marks-long other-long found-long are in
      (read_number_injective r (Ok tt) (ap (λ t. t.answer) back), ap (λ t. t.image) back, ap (λ t. t.marks) back)
