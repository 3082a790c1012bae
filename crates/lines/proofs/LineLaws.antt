-- What a line's first word is by its places: it ends at the first blank, and two words of different lengths or with different first letters are not
-- the same.
use Rattle.std.proofs.Common.{◌≡◌, ℕ, suc, ◌+◌, ◌≤◌, Bool, true, false, cond, Some, None, ltb, ltb-false, List, length, get_or, eqb, refl, ap, arith}
use Rattle.std.specs.List.{position, position_or_len}
use Rattle.std.specs.Option.{unwrap_or}
use Rattle.std.proofs.lemmas.List.Sums.{prefix_len-le-length}
use Rattle.std.proofs.lemmas.List.Recursion.{is_position_or_len}
use Rattle.names.specs.Names.{same_text}
use Rattle.names.proofs.NameLaws.{same_text_eq}
use Rattle.lines.specs.Line.{word_end}

one_more : (c n : ℕ) → cond (eqb c 32) 0 (suc n) ≡ cond (eqb c 32) 0 (1 + n)
one_more c n = ap (λ m. cond (eqb c 32) 0 m) (omega arith)

word_end_place : (t : List ℕ) → word_end t ≡ position_or_len (λ c. eqb c 32) t
word_end_place = is_position_or_len word_end (λ c. eqb c 32) refl (λ c cs. one_more c (word_end cs))

place_or_end : (b : Bool) (k n : ℕ) → ltb k n ≡ b → k ≤ n → unwrap_or (cond b (Some k) None) n ≡ k
place_or_end true k n e h = refl
place_or_end false k n e h = omega (arith, ltb-false k n e)

pub word_end_found : (t : List ℕ) → unwrap_or (position (λ c. eqb c 32) t) (length t) ≡ word_end t
word_end_found t =
    rw (word_end_place t) (place_or_end _ (position_or_len (λ c. eqb c 32) t) (length t) refl (prefix_len-le-length _ t))

false_unless : (b : Bool) → (b ≡ true → ⊥) → b ≡ false
false_unless true n = absurd (n refl)
false_unless false n = refl

pub other_length : (s t : List ℕ) → (length s ≡ length t → ⊥) → same_text s t ≡ false
other_length s t n = false_unless (same_text s t) (λ e. n (ap length (same_text_eq s t e)))

pub other_first : (s t : List ℕ) → (get_or s 0 0 ≡ get_or t 0 0 → ⊥) → same_text s t ≡ false
other_first s t n = false_unless (same_text s t) (λ e. n (ap (λ l. get_or l 0 0) (same_text_eq s t e)))
