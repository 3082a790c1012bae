-- A line determines the bytes that it stands for: a name is not `.DB`; name and operands tell an instruction, and encode gives one plain spelling of
-- it; and behind `.DB` stand the bytes themselves.
use mathlib.Core.Path.{◌≡◌, refl, sym, ◌∙◌, ap}
use mathlib.Core.Bool.{Bool, true, false, cond, true≢false}
use mathlib.Core.List.{List, [], ◌∷◌, ◌++◌, append_assoc, map}
use Prim.Native.Nat.{ℕ, ◌<◌}
use native.Mathlib.Omega.{arith}
use lib.Dec.{leb}
use lib.ListN.{length, get_or, take, drop}
use Rattle.fields.specs.Bytes.{Bytes}
use Rattle.fields.proofs.BytesLaws.{byte_low, bytes_take}
use Rattle.text.specs.Text.{codes, line_end}
use Rattle.text.proofs.WordLaws.{above_tested}
use Rattle.op.specs.declared.operation.Op.{Op}
use Rattle.std.specs.Prelude.{Option, Some, None}
use Rattle.op.specs.Operations.{decoded, form_of, length_of}
use Rattle.names.specs.Names.{name_of, named}
use Rattle.names.proofs.NameLaws.{name_injective, named_name}
use Rattle.instruction.specs.declared.operands.Operands.{Operands}
use Rattle.instruction.specs.Operands.{operands_of}
use Rattle.instruction.specs.Decode.{decoded_of}
use Rattle.instruction.specs.Encode.{encoded_of}
use Rattle.instruction.specs.Plain.{is_plain}
use Rattle.instruction.proofs.PlainLaws.{same_over_lem}
use Rattle.front.specs.declared.front.Front.TheVariants.{Alone}
use Rattle.front.specs.Front.{front_of, size_of, whole}
use Rattle.front.specs.Line.{byte_text, line_at, line_of, operands_text, spaced, then, words_of}
use Rattle.front.specs.Tells.{LineTellsBytes, stands_for}
use Rattle.front.proofs.SpokenLaws.{
  Words,
  bytes_spoken,
  bytes_told,
  bytes_words,
  name_word,
  operand_words,
  operands_spoken,
  operands_told,
  operands_words,
  spoken,
  words_told,
}

-- the operands that an operation has in the bytes that it begins
abbrev operands_in : Op → List ℕ → Operands
operands_in o bytes = operands_of (form_of o) (get_or bytes 1 0) (get_or bytes 2 0)

-- what a line says: an instruction by its name, where the bytes are its plain spelling; or all bytes that it stands for
data Said (bytes : List ℕ) : Type 0 where
  by_name :
      (o : Op) → front_of bytes ≡ whole o (operands_in o bytes) true → is_plain o (operands_in o bytes) bytes ≡ true → Said bytes
  as_data : words_of (front_of bytes) bytes ≡ then (codes ".DB") ++ spaced byte_text (stands_for bytes) → Said bytes

module _ (bytes : List ℕ) (some : 0 < length bytes) where
  whole_said :
      (o : Op) (plain : Bool) → is_plain o (operands_in o bytes) bytes ≡ plain → front_of bytes ≡ whole o (operands_in o bytes) plain →
      Said bytes
  whole_said o true is e = by_name o e is
  whole_said o false is e = as_data (rw e)

  alone_said : front_of bytes ≡ Alone (get_or bytes 0 0) → Said bytes
  alone_said e = as_data (rw e (ap (λ text. then (codes ".DB") ++ text) (first bytes some)))
    where
      first : (l : List ℕ) → 0 < length l → then (byte_text (get_or l 0 0)) ≡ spaced byte_text (take 1 l)
      first [] some = absurd (omega arith)
      first (b ∷ l) some = refl

  -- each line says one of the two
  said : Said bytes
  unfolding front_of decoded_of
  said = by_lookup (decoded (get_or bytes 0 0)) refl
    where
      by_length :
          (o : Op) (fits : Bool) →
          front_of bytes ≡ cond fits (whole o (operands_in o bytes) (is_plain o (operands_in o bytes) bytes)) (Alone (get_or bytes 0 0)) →
          Said bytes
      by_length o true e = whole_said o (is_plain o (operands_in o bytes) bytes) refl e
      by_length o false e = alone_said e

      by_lookup : (l : Option Op) → decoded (get_or bytes 0 0) ≡ l → Said bytes
      by_lookup (Some o) e = by_length o (leb (length_of (form_of o)) (length bytes)) (rw e)
      by_lookup None e = alone_said (rw e)

-- as words
abbrev heard : (bytes : List ℕ) → Said bytes → List (List ℕ)
heard bytes (by_name o e plain) = name_of o ∷ operand_words (operands_in o bytes)
heard bytes (as_data e) = codes ".DB" ∷ map byte_text (stands_for bytes)

heard_words : (bytes : List ℕ) (s : Said bytes) → Words (heard bytes s)
heard_words bytes (by_name o e plain) = (name_word o, operands_words (operands_in o bytes))
heard_words bytes (as_data e) = (above_tested 32 (codes ".DB") refl, bytes_words (stands_for bytes))

heard_spoken : (bytes : List ℕ) (s : Said bytes) → words_of (front_of bytes) bytes ++ line_end ≡ spoken (heard bytes s)
heard_spoken bytes (by_name o e plain) =
    let a = operands_in o bytes in
    ap (λ f. words_of f bytes ++ line_end) e
    ∙ append_assoc (then (name_of o)) (operands_text a) line_end
    ∙ ap (λ t. then (name_of o) ++ t) (operands_spoken a)
heard_spoken bytes (as_data e) =
    ap (λ t. t ++ line_end) e
    ∙ append_assoc (then (codes ".DB")) (spaced byte_text (stands_for bytes)) line_end
    ∙ ap (λ t. then (codes ".DB") ++ t) (bytes_spoken (stands_for bytes))

line_spoken : (a : ℕ) (bytes : List ℕ) (s : Said bytes) → line_at a bytes ≡ byte_text a ++ spoken (heard bytes s)
unfolding line_of
line_spoken a bytes s = ap (λ t. byte_text a ++ t) (heard_spoken bytes s)

-- no operation is called `.DB`
abbrev known : Option Op → Bool
known (Some o) = true
known None = false

not_data : (o : Op) → name_of o ≡ codes ".DB" → ⊥
unfolding named
not_data o e = true≢false (ap known (sym (named_name o) ∙ ap named e))

-- bytes that are listed by name are what encode gives
by_name_stands :
    (bytes : List ℕ) (o : Op) → front_of bytes ≡ whole o (operands_in o bytes) true → is_plain o (operands_in o bytes) bytes ≡ true →
    stands_for bytes ≡ take (length_of (form_of o)) (encoded_of o (operands_in o bytes)).bytes
by_name_stands bytes o e plain =
    rw e (sym (same_over_lem (length_of (form_of o)) (encoded_of o (operands_in o bytes)).bytes bytes plain))

heard_told :
    (bytes others : List ℕ) (s : Said bytes) (t : Said others) → Bytes bytes → Bytes others →
    heard bytes s ≡ heard others t → stands_for bytes ≡ stands_for others
heard_told bytes others (by_name o e plain) (by_name p f plainly) is are same =
    let one : o ≡ p = name_injective o p (ap (λ l. get_or l 0 []) same) in
    let words : operand_words (operands_in p bytes) ≡ operand_words (operands_in p others) =
    ap (λ o. operand_words (operands_in o bytes)) (sym one) ∙ ap (drop 1) same in
    let operands : operands_in o bytes ≡ operands_in p others =
    ap (λ o. operands_in o bytes) one
    ∙ operands_told (get_or bytes 1 0) (get_or bytes 2 0) (get_or others 1 0) (get_or others 2 0) (byte_low bytes 1 is) (byte_low bytes 2 is)
    (byte_low others 1 are) (byte_low others 2 are) (form_of p) words in
    cc (by_name_stands bytes o e plain, by_name_stands others p f plainly, one, operands)
heard_told bytes others (by_name o e plain) (as_data f) is are same = absurd (not_data o (ap (λ l. get_or l 0 []) same))
heard_told bytes others (as_data e) (by_name p f plain) is are same = absurd (not_data p (sym (ap (λ l. get_or l 0 []) same)))
heard_told bytes others (as_data e) (as_data f) is are same =
    bytes_told (stands_for bytes) (stands_for others) (bytes_take (size_of (front_of bytes)) bytes is)
    (bytes_take (size_of (front_of others)) others are) (ap (drop 1) same)

module _ (a b : ℕ) (bytes others : List ℕ) (some : 0 < length bytes) (more : 0 < length others) where
  abbrev ours : Said bytes
  ours = said bytes some

  abbrev theirs : Said others
  theirs = said others more

  -- equal texts that begin with lines have equal addresses there, and equal words, and go on alike
  parts_told :
      (s t : List ℕ) → line_at a bytes ++ s ≡ line_at b others ++ t →
      (byte_text a ≡ byte_text b) × ((heard bytes ours ≡ heard others theirs) × (s ≡ t))
  parts_told s t e =
      let text = ap (λ l. l ++ s) (sym (line_spoken a bytes ours)) ∙ e ∙ ap (λ l. l ++ t) (line_spoken b others theirs) in (
        ap (take 4) text,
        words_told (heard bytes ours) (heard others theirs) s t (heard_words bytes ours) (heard_words others theirs) (ap (drop 4) text),
      )

  -- so they begin with one line
  pub line_told : (s t : List ℕ) → line_at a bytes ++ s ≡ line_at b others ++ t → (line_at a bytes ≡ line_at b others) × (s ≡ t)
  line_told s t e =
      let parts = parts_told s t e in
      (cc (line_spoken a bytes ours, line_spoken b others theirs, parts.0, parts.1.0), parts.1.1)

pub line_tells_bytes : LineTellsBytes
line_tells_bytes a b bytes others is are some more e =
    let parts = parts_told a b bytes others some more [] [] (ap (λ l. l ++ []) e) in
    heard_told bytes others (said bytes some) (said others more) is are parts.1.0

-- no line is empty
pub line_some : (a : ℕ) (bytes rest : List ℕ) → [] ≡ line_at a bytes ++ rest → ⊥
unfolding line_of
line_some a bytes rest e = omega (arith, ap (λ l. get_or l 0 0) e)
