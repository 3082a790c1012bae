-- Laws of the plain spelling: what it is by form; plain bytes are what encode gives, and what encode gives is plain.
use mathlib.Core.Path.{◌≡◌, refl, sym, ◌∙◌, ap}
use mathlib.Core.Bool.{Bool, true, false, cond, ◌&&◌, and-eq-true_iff, and-true, true≢false}
use mathlib.Core.List.{List, [], ◌∷◌}
use Prim.Native.Nat.{ℕ, zero, suc, ◌+◌, ◌*◌, ◌/◌, ◌%◌, ◌<◌, ◌≤◌}
use native.Mathlib.Omega.{arith}
use borrow.Author.Tests.{eqb-true, eq-eqb, ne_eqb, ltb-true, ltb-false}
use lib.Dec.{eqb, ltb}
use lib.ListN.{length, take, get_or}
use Rattle.op.specs.declared.form.Form.{Form}
use Rattle.op.specs.declared.operation.Op.{Op}
use Rattle.std.specs.Prelude.{Option, Some, None}
use Rattle.op.specs.Operations.{byte_of, decoded, form_of, length_of}
use Rattle.op.proofs.Laws.{byte_decoded, length_within}
use Rattle.instruction.specs.declared.operands.Operands.{Operands}
use Rattle.instruction.specs.Operands.{operands_of}
use Rattle.instruction.specs.Decode.{instruction, decoding_of, decoded_of}
use Rattle.instruction.specs.Encode.{encoded_of, three_bytes, three_of, two_of}
use Rattle.instruction.specs.Plain.{Spelling, spelled, is_plain, lone_register, plain_by_form, same_over, spelling_by, spelling_of}
use Rattle.instruction.proofs.Laws.{accepted, accepts, decoded_bytes, decoded_encoded, read, registers_read, shape_read}

-- what is the same over a length is one list up to there, and a list is the same as itself
pub same_over_lem : (n : ℕ) (s t : List ℕ) → same_over n s t ≡ true → take n s ≡ take n t
same_over_lem zero s t e = refl
same_over_lem (suc n) [] t e = cc
same_over_lem (suc n) (a ∷ s) [] e = cc
same_over_lem (suc n) (a ∷ s) (b ∷ t) e =
    let parts = (and-eq-true_iff (eqb a b) (same_over n s t)).0 e in
    cc (eqb-true a b parts.0, same_over_lem n s t parts.1)

over_self : (n : ℕ) (s : List ℕ) → n ≤ length s → same_over n s s ≡ true
over_self zero s h = refl
over_self (suc n) [] h = absurd (omega arith)
over_self (suc n) (a ∷ s) h = rw (eq-eqb a a refl) (over_self n s (omega arith))

-- only the bytes up to the length are looked at
over_taken : (n : ℕ) (s t : List ℕ) → n ≤ length t → same_over n s (take n t) ≡ same_over n s t
over_taken zero s t h = refl
over_taken (suc n) [] t h = refl
over_taken (suc n) (a ∷ s) [] h = absurd (omega arith)
over_taken (suc n) (a ∷ s) (b ∷ t) h = ap (λ rest. eqb a b && rest) (over_taken n s t (omega arith))

take_three : (n : ℕ) (t : List ℕ) → n ≤ 3 → n ≤ length t → take n (get_or t 0 0 ∷ get_or t 1 0 ∷ get_or t 2 0 ∷ []) ≡ take n t
take_three zero t few h = refl
take_three (suc n) [] few h = absurd (omega arith)
take_three (suc zero) (a ∷ t) few h = refl
take_three (suc (suc n)) (a ∷ []) few h = absurd (omega arith)
take_three (suc (suc zero)) (a ∷ b ∷ t) few h = refl
take_three (suc (suc (suc n))) (a ∷ b ∷ []) few h = absurd (omega arith)
take_three (suc (suc (suc zero))) (a ∷ b ∷ c ∷ t) few h = refl
take_three (suc (suc (suc (suc n)))) (a ∷ b ∷ c ∷ t) few h = absurd (omega arith)

-- a register alone is all of its byte exactly where the byte is below 16
low_nibble : (two : ℕ) → eqb (two % 16 % 16) two ≡ ltb two 16
low_nibble two = by (ltb two 16) refl
  where
    by : (b : Bool) → ltb two 16 ≡ b → eqb (two % 16 % 16) two ≡ b
    by true e = let low = ltb-true two 16 e in eq-eqb (two % 16 % 16) two (omega arith)
    by false e = let high = ltb-false two 16 e in ne_eqb (two % 16 % 16) two (λ same. omega (arith, same))

-- of the bytes that encode gives for operands read by a form, only the second can be another
by_form :
    (f : Form) (one two three : ℕ) → two < 256 →
    same_over (length_of f) (one ∷ two_of (operands_of f two three) ∷ three_of (operands_of f two three) ∷ []) (one ∷ two ∷ three ∷ [])
    ≡ plain_by_form f two
by_form Form.None one two three h = rw (eq-eqb one one refl)
by_form Form.Reg one two three h = rw (eq-eqb one one refl, low_nibble two) (and-true (ltb two 16))
by_form Form.RegImm one two three h =
    rw (eq-eqb one one refl, low_nibble two, eq-eqb three three refl) (and-true (ltb two 16))
by_form Form.RegReg one two three h =
    rw (eq-eqb one one refl, eq-eqb (two / 16 % 16 * 16 + two % 16 % 16) two (omega arith))
by_form Form.RegAddr one two three h =
    rw (eq-eqb one one refl, low_nibble two, eq-eqb three three refl) (and-true (ltb two 16))
by_form Form.Addr one two three h = rw (eq-eqb one one refl, eq-eqb two two refl)

found_at : (l : Option Op) (one two three : ℕ) (o : Op) (a : Operands) → decoding_of l one two three ≡ instruction o a → l ≡ Some o
found_at (Some p) one two three o a e = cc
found_at None one two three o a e = cc

module _ (one two three : ℕ) (o : Op) (a : Operands) (e : decoded_of one two three ≡ instruction o a) where
  abbrev bytes : List ℕ
  bytes = one ∷ two ∷ three ∷ []

  first_byte : byte_of o ≡ one
  unfolding decoded_of
  first_byte = byte_decoded one o (found_at (decoded one) one two three o a e)

  said : spelling_of one two three ≡ spelled (is_plain o a bytes)
  unfolding spelling_of
  said = ap (λ d. spelling_by d bytes) e

  module _ (h : two < 256) where
    taken : encoded_of o a ≡ three_bytes o a
    taken =
        accepts o a (rw (← read one two three o a e) (shape_read (form_of o) two three))
        (rw (← read one two three o a e) (registers_read (form_of o) two three h))

    -- the spelling is plain, but where a register stands alone and its high nibble is not 0
    pub plain_by_form_lem : spelling_of one two three ≡ spelled (plain_by_form (form_of o) two)
    plain_by_form_lem = said ∙ ap spelled (rw (taken, first_byte, ← read one two three o a e) (by_form (form_of o) one two three h))

    -- which forms can be unplain at all
    pub unplain_lone : spelling_of one two three ≡ spelled false → (lone_register (form_of o) ≡ true) × (16 ≤ two)
    unplain_lone unplain =
        let other : plain_by_form (form_of o) two ≡ false = cc (plain_by_form_lem, unplain) in
        by (lone_register (form_of o)) other
      where
        by : (lone : Bool) → cond lone (ltb two 16) true ≡ false → (lone ≡ true) × (16 ≤ two)
        by true e = (refl, ltb-false two 16 e)
        by false e = absurd (true≢false e)

    -- bytes in plain spelling are what encode gives
    pub plain_encoded :
        spelling_of one two three ≡ spelled true →
        take (length_of (form_of o)) bytes ≡ take (encoded_of o a).length (encoded_of o a).bytes
    plain_encoded plain =
        let same : is_plain o a bytes ≡ true = cc (said, plain) in
        sym (same_over_lem (length_of (form_of o)) (encoded_of o a).bytes bytes same) ∙ rw taken

-- an operation that was found has its instruction, and is spelled as its form says
pub answered :
    (one two three : ℕ) (o : Op) → decoded one ≡ Some o → two < 256 →
    (instruction o (operands_of (form_of o) two three) ≡ decoded_of one two three)
    × (spelled (plain_by_form (form_of o) two) ≡ spelling_of one two three)
unfolding decoded_of
answered one two three o e h =
    let stands : decoded_of one two three ≡ instruction o (operands_of (form_of o) two three) = rw e in
    (sym stands, sym (plain_by_form_lem one two three o (operands_of (form_of o) two three) stands h))

-- the spelling of the three bytes that stand first is that of all bytes, where the instruction is there whole
pub plain_first :
    (o : Op) (a : Operands) (bytes : List ℕ) → length_of (form_of o) ≤ length bytes →
    is_plain o a (get_or bytes 0 0 ∷ get_or bytes 1 0 ∷ get_or bytes 2 0 ∷ []) ≡ is_plain o a bytes
plain_first o a bytes h =
    let n = length_of (form_of o) in
    let given = (encoded_of o a).bytes in
    let first : List ℕ = get_or bytes 0 0 ∷ get_or bytes 1 0 ∷ get_or bytes 2 0 ∷ [] in
    sym (over_taken n given first (length_within (form_of o)).1)
    ∙ ap (same_over n given) (take_three n bytes (length_within (form_of o)).1 h)
    ∙ over_taken n given bytes h

-- what is said of three bytes as encode gives them
abbrev pub spelled_bytes : List ℕ → Spelling
spelled_bytes bytes = spelling_of (get_or bytes 0 0) (get_or bytes 1 0) (get_or bytes 2 0)

-- every instruction that encode gives is plain
pub encoded_plain : (o : Op) (a : Operands) → (encoded_of o a).answer ≡ 0 ∷ [] → spelled_bytes (encoded_of o a).bytes ≡ spelled true
encoded_plain o a e =
    let tests = accepted o a e in
    let gives = accepts o a tests.0 tests.1 in
    rw gives
    (said (byte_of o) (two_of a) (three_of a) o a (ap (λ x. decoded_bytes x.bytes) (sym gives) ∙ decoded_encoded o a e)
    ∙ ap spelled (rw gives (over_self (length_of (form_of o)) (three_bytes o a).bytes (length_within (form_of o)).1)))
