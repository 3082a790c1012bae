-- What has room: the bytes that encode gives in three, and the line of an instruction on a Line, which holds it whole.
use mathlib.Core.Path.{◌≡◌, refl}
use mathlib.Core.Bool.{Bool, true, false, cond}
use mathlib.Core.List.{List, [], ◌∷◌, append-nil}
use Prim.Native.Nat.{ℕ, ◌≤◌}
use native.Mathlib.Omega.{arith}
use lib.ListN.{length, length-append, length-take, take}
use Rattle.digits.specs.Digit.{pair_of}
use Rattle.op.specs.declared.operation.Op.{Op}
use Rattle.op.specs.Operations.{form_of, length_of}
use Rattle.op.proofs.Laws.{length_within}
use Rattle.instruction.specs.declared.operands.Operands.{Operands}
use Rattle.instruction.specs.Encode.{Encoding, encoded_of, no_bytes, registers_exist, same_form, shape_of, three_bytes}
use Rattle.text.specs.declared.line.Line.{Line}
use Rattle.text.specs.Lines.{lined}
use Rattle.text.proofs.LineLaws.{Holds, line_holds}
use Rattle.front.specs.declared.front.Front.{Front}
use Rattle.front.specs.declared.front.Front.TheVariants.{Whole, Alone}
use Rattle.front.specs.Front.{front_of, whole}
use Rattle.front.proofs.SpacedLaws.{spaced_length}
use Rattle.finding.specs.Found.{found_at, found_by}
use Rattle.finding.specs.Line.{line_of, lines_of}

-- there are three bytes, and no more of them are the instruction
abbrev Few : Encoding → Type 0
Few e = (e.length ≤ 3) × (length e.bytes ≡ 3)

-- by the two tests of the definition
tested :
    (same exist : Bool) (o : Op) (a : Operands) →
    Few (cond same (cond exist (three_bytes o a) (no_bytes (13 ∷ []))) (no_bytes (12 ∷ [])))
tested true true o a = ((length_within (form_of o)).1, refl)
tested true false o a = (omega arith, refl)
tested false exist o a = (omega arith, refl)

encoded_few : (o : Op) (a : Operands) → Few (encoded_of o a)
unfolding encoded_of
encoded_few o a = tested (same_form (shape_of a) (form_of o)) (registers_exist a) o a

pub encoded_within : {e : Encoding} (o : Op) (a : Operands) → e ≡ encoded_of o a → (e.length ≤ 3) × (e.length ≤ length e.bytes)
encoded_within o a e = let few = encoded_few o a in rw e (few.0, omega arith)

line_length :
    (address : ℕ) (bytes plainly : List ℕ) → length bytes ≤ 3 → length plainly ≤ 3 → length (line_of address bytes plainly) ≤ 29
unfolding line_of
line_length address bytes plainly few plain = simp (length-append, spaced_length pair_of 2 (λ b. refl)) (omega arith)

-- what is said of what the bytes begin with: one line of an instruction that has at most three bytes, or nothing
whole_short :
    (plain : Bool) (o : Op) (a : Operands) (address : ℕ) (bytes : List ℕ) → length (lines_of (found_by (whole o a plain) address bytes)) ≤ 29
whole_short true o a address bytes = omega arith
whole_short false o a address bytes =
    let said = take (length_of (form_of o)) bytes in
    let plainly = take (encoded_of o a).length (encoded_of o a).bytes in
    rw (append-nil (line_of address said plainly))
    (line_length address said plainly
    (omega (arith, (length_within (form_of o)).1, length-take (length_of (form_of o)) bytes))
    (omega (arith, (encoded_few o a).0, length-take (encoded_of o a).length (encoded_of o a).bytes)))

by_short : (front : Front) (address : ℕ) (bytes : List ℕ) → length (lines_of (found_by front address bytes)) ≤ 29
by_short (Whole i) address bytes = whole_short i.plain i.op i.operands address bytes
by_short (Alone byte) address bytes = omega arith

pub lines_short : (address : ℕ) (bytes : List ℕ) → length (lines_of (found_at address bytes)) ≤ 29
lines_short address bytes = by_short (front_of bytes) address bytes

-- so it is on its Line whole
pub found_holds :
    (address : ℕ) (bytes : List ℕ) {line : Line} → line ≡ lined (lines_of (found_at address bytes)) →
    Holds (lines_of (found_at address bytes)) line
found_holds address bytes = line_holds (lines_of (found_at address bytes)) (omega (arith, lines_short address bytes))
