-- What has room: each line of a listing on a Line, whatever its operands and its bytes.
use mathlib.Core.Path.{◌≡◌, refl}
use mathlib.Core.Bool.{Bool, true, false, cond}
use mathlib.Core.List.{List, [], ◌∷◌, ◌++◌}
use Prim.Native.Nat.{ℕ, zero, suc, ◌/◌, ◌≤◌}
use native.Mathlib.Omega.{arith}
use lib.Dec.{eqb}
use lib.ListN.{length, length-append, length-take, take}
use Rattle.op.specs.declared.operation.Op.{Op}
use Rattle.op.specs.Operations.{form_of, length_of}
use Rattle.op.proofs.Laws.{length_within}
use Rattle.names.proofs.NameLaws.{name_short}
use Rattle.names.specs.Names.{name_of}
use Rattle.instruction.specs.declared.operands.Operands.{Operands}
use Rattle.instruction.specs.declared.operands.Operands.TheVariants.{None, Reg, RegImm, RegReg, RegAddr, Addr}
use Rattle.text.specs.declared.line.Line.{Line}
use Rattle.text.specs.Decimal.{decimal, digits_of, last_digit}
use Rattle.text.specs.Lines.{lined}
use Rattle.text.specs.Text.{codes, line_end}
use Rattle.text.proofs.LineLaws.{Holds, line_holds}
use Rattle.front.specs.declared.front.Front.{Front}
use Rattle.front.specs.declared.front.Front.TheVariants.{Whole, Alone}
use Rattle.front.specs.Front.{front_of, whole}
use Rattle.front.specs.Line.{byte_text, register_text, spaced, then, operands_text, words_of, line_of, line_at}
use Rattle.front.proofs.SpacedLaws.{spaced_length}

-- a digit more behind the others, or none
one_more : (none : Bool) (digits : List ℕ) (d k : ℕ) → length digits ≤ k → length (cond none [] (digits ++ (d ∷ []))) ≤ suc k
one_more true digits d k h = omega arith
one_more false digits d k h = omega (arith, length-append digits (d ∷ []))

digits_few : (k n : ℕ) → length (digits_of k n) ≤ k
unfolding digits_of
digits_few zero n = omega arith
digits_few (suc k) n = one_more (eqb n 0) (digits_of k (n / 10)) (last_digit n) k (digits_few k (n / 10))

-- a decimal number has at most twenty digits
register_few : (r : ℕ) → length (then (register_text r)) ≤ 22
unfolding decimal
register_few r = omega (arith, length-append (digits_of 19 (r / 10)) (last_digit r ∷ []), digits_few 19 (r / 10))

-- a register, and a word that is no longer than one
and_word : (r : ℕ) (word : List ℕ) → length word ≤ 22 → length (then (register_text r) ++ word) ≤ 44
and_word r word h = omega (arith, length-append (then (register_text r)) word, register_few r)

operands_few : (a : Operands) → length (operands_text a) ≤ 44
operands_few None = omega arith
operands_few (Reg r) = omega (arith, register_few r)
operands_few (RegImm r v) = and_word r (then (byte_text v)) (omega arith)
operands_few (RegReg d s) = and_word d (then (register_text s)) (register_few s)
operands_few (RegAddr r a) = and_word r (then (byte_text a)) (omega arith)
operands_few (Addr a) = omega arith

words_by : (plain : Bool) (o : Op) (a : Operands) (bytes : List ℕ) → length (words_of (whole o a plain) bytes) ≤ 50
words_by true o a bytes = omega (arith, length-append (then (name_of o)) (operands_text a), name_short o, operands_few a)
words_by false o a bytes =
    let said = take (length_of (form_of o)) bytes in
    omega (
      arith,
      length-append (then (codes ".DB")) (spaced byte_text said),
      spaced_length byte_text 4 (λ b. refl) said,
      length-take (length_of (form_of o)) bytes,
      (length_within (form_of o)).1,
    )

words_few : (front : Front) (bytes : List ℕ) → length (words_of front bytes) ≤ 50
words_few (Whole i) bytes = words_by i.plain i.op i.operands bytes
words_few (Alone byte) bytes = omega arith

pub line_short : (address : ℕ) (bytes : List ℕ) → length (line_at address bytes) ≤ 64
unfolding line_of
line_short address bytes =
    let words = words_of (front_of bytes) bytes in
    omega (
      arith,
      length-append (byte_text address ++ words) line_end,
      length-append (byte_text address) words,
      words_few (front_of bytes) bytes,
    )

-- so it is on its Line whole
pub line_whole :
    (address : ℕ) (bytes : List ℕ) {line : Line} → line ≡ lined (line_at address bytes) → Holds (line_at address bytes) line
line_whole address bytes = line_holds (line_at address bytes) (line_short address bytes)
