-- Laws of cases: a case that fits has room for its buffer; two answers that compare as the same are the same.
use mathlib.Core.Path.{◌≡◌, refl, ap, ◌∙◌}
use mathlib.Core.Bool.{Bool, true, false, cond, ◌&&◌, and-eq-true_iff}
use mathlib.Core.List.{List}
use Prim.Native.Nat.{ℕ, ◌≤◌}
use native.Mathlib.Omega.{arith}
use borrow.Author.Tests.{leb-true, ltb-false}
use lib.Dec.{leb}
use lib.ListN.{length}
use Rattle.fields.specs.Apart.{alike}
use Rattle.fields.proofs.ApartLaws.{alike_whole, alike_most}
use Rattle.compare.specs.declared.verdict.Difference.{Difference}
use Rattle.compare.specs.declared.verdict.Part.{Part}
use Rattle.compare.specs.declared.verdict.Part.TheVariants.{Number, Register, Memory, Output}
use Rattle.std.specs.Prelude.{Result, Ok, Err}
use Rattle.compare.specs.declared.verdict.Mismatch.{Mismatch}
use Rattle.compare.specs.declared.verdict.Mismatch.TheVariants.{Differs}
use Rattle.compare.specs.Verdict.{parted, parted_by, or_else}
use Rattle.answers.specs.declared.answer.Answer.{Answer}
use Rattle.fields.specs.Read.{byte_at, word_at}
use Rattle.answers.specs.declared.answer.Kind.{Kind}
use Rattle.replay.specs.Case.{fits, start_fits, compared}

pub fits_room : (kind : Kind) (case : List ℕ) → fits kind case ≡ true → word_at case 36 ≤ 4096
unfolding fits
fits_room kind case e =
    let room = leb (word_at case 36) 4096 in
    let before = leb (byte_at case 3) 1 && leb (word_at case 4) 65535 && leb (word_at case 8) 65535 in
    let parts = (and-eq-true_iff (before && room) (start_fits kind case)).0 e in
    leb-true (word_at case 36) 4096 ((and-eq-true_iff before room).0 parts.0).1

-- two answers that compare as the same are the same, number by number and byte by byte
abbrev same : Result (Unit {0}) Mismatch
same = Ok tt

part_same : (b : Bool) (d : Difference) → cond b (Err (Differs d)) same ≡ same → b ≡ false
part_same true d e = cc
part_same false d e = refl

parted_same : (p : Part) (xs ys : List ℕ) → length xs ≡ length ys → parted p xs ys ≡ same → xs ≡ ys
unfolding parted_by
parted_same p xs ys l e =
    let within = ltb-false (alike xs ys) (length xs) (part_same _ _ e) in
    alike_whole xs ys (omega (arith, within, alike_most xs ys)) l

both_same : (v w : Result (Unit {0}) Mismatch) → or_else v w ≡ same → (v ≡ same) × (w ≡ same)
both_same (Ok t) w e = (refl, e)
both_same (Err mismatch) w e = cc

abbrev made : List ℕ → List ℕ → List ℕ → Answer
made numbers registers memory = record { numbers = numbers; registers = registers; memory = memory }

pub same_everything :
    (ours theirs : Answer) (output expected : List ℕ) → length ours.numbers ≡ length theirs.numbers →
    length ours.registers ≡ length theirs.registers → length ours.memory ≡ length theirs.memory →
    length output ≡ length expected → compared ours theirs output expected ≡ Ok tt →
    (ours ≡ theirs) × (output ≡ expected)
unfolding compared
same_everything ours theirs output expected n r m o e =
    let numbers = both_same _ _ e in
    let registers = both_same _ _ numbers.1 in
    let rest = both_same _ _ registers.1 in
    let same_numbers = parted_same Number ours.numbers theirs.numbers n numbers.0 in
    let same_registers = parted_same Register ours.registers theirs.registers r registers.0 in
    let same_memory = parted_same Memory ours.memory theirs.memory m rest.0 in (
      ap (λ l. made l ours.registers ours.memory) same_numbers
          ∙ ap (λ l. made theirs.numbers l ours.memory) same_registers
          ∙ ap (λ l. made theirs.numbers theirs.registers l) same_memory,
      parted_same Output output expected o rest.1,
    )

-- Laws that stand for themselves: every verdict but one.
abbrev pub differs : Result (Unit {0}) Mismatch → Type 0
differs (Ok t) = ⊥
differs (Err mismatch) = Unit {0}
