-- A line as its words: the spaces between them and the LF behind them tell each word, and a word tells the register or the byte that it spells.
use mathlib.Core.Path.{◌≡◌, refl, sym, ◌∙◌, ap}
use mathlib.Core.Bool.{true}
use mathlib.Core.List.{List, [], ◌∷◌, ◌++◌, append_assoc, map}
use Prim.Native.Nat.{ℕ, ◌/◌, ◌%◌, ◌≤◌, ◌<◌}
use native.Mathlib.Omega.{arith}
use lib.ListN.{get_or, drop}
use Rattle.digits.proofs.DigitLaws.{digit_high, pair_injective}
use Rattle.fields.specs.Bytes.{Bytes}
use Rattle.text.specs.Decimal.{decimal}
use Rattle.text.specs.Text.{line_end}
use Rattle.text.proofs.ReadBack.{decimal_injective}
use Rattle.text.proofs.WordLaws.{Above, above_less, above_tested, all_above, decimal_above, word_told}
use Rattle.op.specs.declared.form.Form.{Form}
use Rattle.op.specs.declared.operation.Op.{Op}
use Rattle.op.proofs.Laws.{agree}
use Rattle.names.specs.Names.{name_of}
use Rattle.instruction.specs.declared.operands.Operands.{Operands}
use Rattle.instruction.specs.declared.operands.Operands.TheVariants.{None, Reg, RegImm, RegReg, RegAddr, Addr}
use Rattle.instruction.specs.Operands.{operands_of}
use Rattle.front.specs.Line.{byte_text, operands_text, register_text, spaced, then}

-- words, each behind a space, and the line's end
abbrev pub spoken : List (List ℕ) → List ℕ
spoken [] = line_end
spoken (w ∷ ws) = then w ++ spoken ws

-- what words are made of lies above the space, and so above the LF
abbrev pub Words : List (List ℕ) → Type 0
Words [] = Unit {0}
Words (w ∷ ws) = Above 32 w × Words ws

part_low : (ws : List (List ℕ)) (s : List ℕ) → get_or (spoken ws ++ s) 0 0 ≤ 32
part_low [] s = omega arith
part_low (w ∷ ws) s = omega arith

-- equal texts begin with equal words, and go on alike
pub words_told :
    (vs ws : List (List ℕ)) (s t : List ℕ) → Words vs → Words ws → spoken vs ++ s ≡ spoken ws ++ t → (vs ≡ ws) × (s ≡ t)
words_told [] [] s t is are e = (refl, ap (drop 1) e)
words_told [] (w ∷ ws) s t is are e = absurd (omega (arith, ap (λ l. get_or l 0 0) e))
words_told (v ∷ vs) [] s t is are e = absurd (omega (arith, ap (λ l. get_or l 0 0) e))
words_told (v ∷ vs) (w ∷ ws) s t is are e =
    let same = sym (append_assoc v (spoken vs) s) ∙ ap (drop 1) e ∙ append_assoc w (spoken ws) t in
    let first = word_told 32 v w (spoken vs ++ s) (spoken ws ++ t) is.0 are.0 (part_low vs s) (part_low ws t) same in
    let rest = words_told vs ws s t is.1 are.1 first.1 in
    (cc (first.0, rest.0), rest.1)

pub name_word : (o : Op) → Above 32 (name_of o)
name_word o = above_tested 32 (name_of o) (agree (λ o. all_above 32 (name_of o)) (λ o. true) refl o)

register_word : (r : ℕ) → Above 32 (register_text r)
register_word r = (omega arith, above_less 32 47 (decimal r) (omega arith) (decimal_above r))

byte_word : (b : ℕ) → Above 32 (byte_text b)
byte_word b = (omega arith, (omega arith, (omega (arith, digit_high (b / 16)), (omega (arith, digit_high (b % 16)), tt))))

-- operands as words
abbrev pub operand_words : Operands → List (List ℕ)
operand_words None = []
operand_words (Reg r) = register_text r ∷ []
operand_words (RegImm r v) = register_text r ∷ byte_text v ∷ []
operand_words (RegReg d s) = register_text d ∷ register_text s ∷ []
operand_words (RegAddr r a) = register_text r ∷ byte_text a ∷ []
operand_words (Addr a) = byte_text a ∷ []

pub operands_spoken : (a : Operands) → operands_text a ++ line_end ≡ spoken (operand_words a)
operands_spoken None = refl
operands_spoken (Reg r) = refl
operands_spoken (RegImm r v) = append_assoc (then (register_text r)) (then (byte_text v)) line_end
operands_spoken (RegReg d s) = append_assoc (then (register_text d)) (then (register_text s)) line_end
operands_spoken (RegAddr r a) = append_assoc (then (register_text r)) (then (byte_text a)) line_end
operands_spoken (Addr a) = refl

pub operands_words : (a : Operands) → Words (operand_words a)
operands_words None = tt
operands_words (Reg r) = (register_word r, tt)
operands_words (RegImm r v) = (register_word r, (byte_word v, tt))
operands_words (RegReg d s) = (register_word d, (register_word s, tt))
operands_words (RegAddr r a) = (register_word r, (byte_word a, tt))
operands_words (Addr a) = (byte_word a, tt)

-- bytes as words
pub bytes_spoken : (bytes : List ℕ) → spaced byte_text bytes ++ line_end ≡ spoken (map byte_text bytes)
bytes_spoken [] = refl
bytes_spoken (b ∷ bs) =
    append_assoc (then (byte_text b)) (spaced byte_text bs) line_end ∙ ap (λ t. then (byte_text b) ++ t) (bytes_spoken bs)

pub bytes_words : (bytes : List ℕ) → Words (map byte_text bytes)
bytes_words [] = tt
bytes_words (b ∷ bs) = (byte_word b, bytes_words bs)

-- what words spell
register_told : (r s : ℕ) → r < 16 → s < 16 → register_text r ≡ register_text s → r ≡ s
register_told r s h k e = decimal_injective r s (omega arith) (omega arith) (ap (drop 1) e)

byte_told : (b c : ℕ) → b < 256 → c < 256 → byte_text b ≡ byte_text c → b ≡ c
byte_told b c h k e = pair_injective b c h k (ap (drop 2) e)

pub bytes_told : (s t : List ℕ) → Bytes s → Bytes t → map byte_text s ≡ map byte_text t → s ≡ t
bytes_told [] [] is are e = refl
bytes_told [] (c ∷ t) is are e = cc
bytes_told (b ∷ s) [] is are e = cc
bytes_told (b ∷ s) (c ∷ t) is are e =
    cc (byte_told b c is.0 are.0 (ap (λ l. get_or l 0 []) e), bytes_told s t is.1 are.1 (ap (drop 1) e))

module _ (two three two' three' : ℕ) (h : two < 256) (k : three < 256) (h' : two' < 256) (k' : three' < 256) where
  low_told : register_text (two % 16) ≡ register_text (two' % 16) → two % 16 ≡ two' % 16
  low_told = register_told (two % 16) (two' % 16) (omega arith) (omega arith)

  -- operands that were read by one form
  pub operands_told :
      (f : Form) → operand_words (operands_of f two three) ≡ operand_words (operands_of f two' three') →
      operands_of f two three ≡ operands_of f two' three'
  operands_told Form.None e = refl
  operands_told Form.Reg e = ap Reg (low_told (ap (λ l. get_or l 0 []) e))
  operands_told Form.RegImm e =
      cc (low_told (ap (λ l. get_or l 0 []) e), byte_told three three' k k' (ap (λ l. get_or l 1 []) e))
  operands_told Form.RegReg e =
      let high = register_told (two / 16) (two' / 16) (omega arith) (omega arith) (ap (λ l. get_or l 0 []) e) in
      cc (high, low_told (ap (λ l. get_or l 1 []) e))
  operands_told Form.RegAddr e =
      cc (low_told (ap (λ l. get_or l 0 []) e), byte_told three three' k k' (ap (λ l. get_or l 1 []) e))
  operands_told Form.Addr e = ap Addr (byte_told two two' h h' (ap (λ l. get_or l 0 []) e))
