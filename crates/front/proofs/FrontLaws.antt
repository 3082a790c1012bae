-- What a line stands for is there: a byte at least, and no more than the program has.
use mathlib.Core.Path.{◌≡◌, refl, sym, ◌∙◌, ap}
use mathlib.Core.Bool.{Bool, true, false, cond}
use mathlib.Core.List.{List, [], ◌∷◌}
use Prim.Native.Nat.{ℕ, ◌+◌, ◌≤◌, ◌<◌}
use native.Mathlib.Omega.{arith}
use borrow.Author.Tests.{leb-true}
use lib.Dec.{leb}
use lib.ListN.{length, get_or, drop, length-drop}
use Rattle.op.specs.declared.operation.Op.{Op}
use Rattle.op.specs.Operations.{form_of, length_of}
use Rattle.op.proofs.Laws.{length_within}
use Rattle.fields.specs.Read.{byte_at}
use Rattle.instruction.specs.declared.operands.Operands.{Operands}
use Rattle.instruction.specs.Decode.{Decoding, instruction, refused, decoded_of}
use Rattle.instruction.specs.Plain.{is_plain, spelled, spelling_by, spelling_of}
use Rattle.instruction.proofs.PlainLaws.{plain_first}
use Rattle.front.specs.declared.front.Front.TheVariants.{Alone}
use Rattle.front.specs.Front.{front_by, front_of, size_of, whole}

-- one byte at least, and no more than there are
abbrev pub Within : ℕ → ℕ → Type 0
Within left size = (1 ≤ size) × (size ≤ left)

whole_or_alone :
    (b : Bool) (o : Op) (a : Operands) (plain : Bool) (byte left : ℕ) → 0 < left → (b ≡ true → length_of (form_of o) ≤ left) →
    Within left (size_of (cond b (whole o a plain) (Alone byte)))
whole_or_alone true o a plain byte left some fits = ((length_within (form_of o)).0, fits refl)
whole_or_alone false o a plain byte left some fits = (omega arith, some)

by_within : (d : Decoding) (bytes : List ℕ) → 0 < length bytes → Within (length bytes) (size_of (front_by d bytes))
by_within (instruction o a) bytes some =
    let size = length_of (form_of o) in
    whole_or_alone (leb size (length bytes)) o a (is_plain o a bytes) (get_or bytes 0 0) (length bytes) some (leb-true size (length bytes))
by_within (refused answer) bytes some = (omega arith, some)

pub size_within : (bytes : List ℕ) → 0 < length bytes → Within (length bytes) (size_of (front_of bytes))
unfolding front_of
size_within bytes some = by_within (decoded_of (get_or bytes 0 0) (get_or bytes 1 0) (get_or bytes 2 0)) bytes some

module _ (program : List ℕ) (at : ℕ) (h : at < length program) where
  pub some_left : 0 < length (drop at program)
  some_left = rw (length-drop at program) (omega arith)

  -- the next line begins behind this one's bytes, at the latest at the program's end
  pub goes_on : (next : ℕ) → next ≡ at + size_of (front_of (drop at program)) → (at < next) × (next ≤ length program)
  goes_on next e =
      let within = size_within (drop at program) some_left in
      (omega (arith, within.0), omega (arith, within.1, length-drop at program))

-- three bytes as they were read, and what they were decoded to, make the front
module _
    (bytes : List ℕ) (one two three : ℕ) (e : one ≡ byte_at bytes 0) (f : two ≡ byte_at bytes 1) (g : three ≡ byte_at bytes 2)
  where
    pub front_read : (d : Decoding) → d ≡ decoded_of one two three → front_of bytes ≡ front_by d bytes
    unfolding front_of
    front_read d h = rw (← e, ← f, ← g, ← h)

    -- the spelling of three bytes is that of those that are there: an instruction that is whole has no more
    pub spelling_read :
        (o : Op) (a : Operands) (plain : Bool) → instruction o a ≡ decoded_of one two three → spelled plain ≡ spelling_of one two three →
        length_of (form_of o) ≤ length bytes → plain ≡ is_plain o a bytes
    unfolding spelling_of
    spelling_read o a plain h k whole =
        let said : spelled plain ≡ spelled (is_plain o a (one ∷ two ∷ three ∷ [])) =
        k ∙ ap (λ d. spelling_by d (one ∷ two ∷ three ∷ [])) (sym h) in
        let same : plain ≡ is_plain o a (one ∷ two ∷ three ∷ []) = cc in
        same ∙ rw (e, f, g) (plain_first o a bytes whole)
