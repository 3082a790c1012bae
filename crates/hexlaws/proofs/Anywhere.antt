-- A text means the same whatever image it is read onto.
use mathlib.Core.Path.{◌≡◌, refl, sym, ◌∙◌, ap, subst}
use mathlib.Core.Bool.{Bool, true, false, cond, ◌&&◌}
use mathlib.Core.List.{List, [], ◌∷◌, ◌++◌}
use Prim.Native.Nat.{ℕ, zero, suc, ◌+◌, ◌≤◌, ◌<◌}
use native.Mathlib.Numerals.{add-one}
use native.Mathlib.Omega.{arith}
use borrow.Author.Tests.{eq-eqb, ltb-false}
use lib.Dec.{eqb, ltb}
use lib.ListN.{length, get_or, set, take, drop, replicate, length-set, drop_of_length-le}
use lib.Seq.{drop-cons}
use Rattle.scan.specs.declared.class.Class.TheVariants.{IsNot}
use Rattle.scan.specs.Scan.{some}
use Rattle.fields.specs.Lay.{laid}
use Rattle.fields.specs.Overlay.{overlaid}
use Rattle.fields.proofs.OverlayLaws.{overlaid_length}
use Rattle.hexline.specs.Row.{Row, fills, ends, refused as row_refused, row_of}
use Rattle.hexread.specs.File.{Sheet, sheet, placed, Progress, goes, ended, refused, put, after, turn, Outcome, accepted, rejected, onward, lines_from, file_of, told, told_by, reading_of}
use Rattle.hexlaws.specs.Back.{ones_of}
use Rattle.hexlaws.specs.Meaning.{clear, holds, cell_at, meaning_of, meaning_by, byte_or, mark, map_over, marks_over, onto_image}
use Rattle.hexlaws.proofs.Placing.{Whole, placed_laid, placed_whole}

-- an image with what a sheet has over it, and the sheet's marks
abbrev onto : List ℕ → Sheet → Sheet
onto base s = sheet (overlaid base s.image s.marks) s.marks

overlaid_set :
    (base image marks : List ℕ) (i v : ℕ) → length base ≡ length image → length image ≡ length marks →
    overlaid base (set image i v) (set marks i 1) ≡ set (overlaid base image marks) i v
unfolding overlaid
overlaid_set [] [] [] i v e f = refl
overlaid_set [] [] (m ∷ ms) i v e f = absurd (omega arith)
overlaid_set [] (b ∷ bs) marks i v e f = absurd (omega arith)
overlaid_set (x ∷ xs) [] marks i v e f = absurd (omega arith)
overlaid_set (x ∷ xs) (b ∷ bs) [] i v e f = absurd (omega arith)
overlaid_set (x ∷ xs) (b ∷ bs) (m ∷ ms) zero v e f = refl
overlaid_set (x ∷ xs) (b ∷ bs) (m ∷ ms) (suc i) v e f = ap (λ l. cond (eqb m 0) x b ∷ l) (overlaid_set xs bs ms i v (omega arith) (omega arith))

overlaid_laid :
    (base image marks : List ℕ) (a : ℕ) (held : List ℕ) → length base ≡ length image → length image ≡ length marks →
    overlaid base (laid image a held) (laid marks a (replicate (length held) 1)) ≡ laid (overlaid base image marks) a held
overlaid_laid base image marks a [] e f = refl
overlaid_laid base image marks a (v ∷ held) e f =
    overlaid_laid base (set image a v) (set marks a 1) (a + 1) held (e ∙ sym (length-set image a v)) (length-set image a v ∙ f ∙ sym (length-set marks a 1))
    ∙ ap (λ l. laid l (a + 1) held) (overlaid_set base image marks a v e f)

ones_set : (marks : List ℕ) (i : ℕ) → ones_of (set marks i 1) ≡ set (ones_of marks) i 1
unfolding ones_of
ones_set [] i = refl
ones_set (m ∷ ms) zero = refl
ones_set (m ∷ ms) (suc i) = ap (λ l. cond (eqb m 0) 0 1 ∷ l) (ones_set ms i)

ones_laid : (n : ℕ) (marks : List ℕ) (a : ℕ) → ones_of (laid marks a (replicate n 1)) ≡ laid (ones_of marks) a (replicate n 1)
ones_laid zero marks a = refl
ones_laid (suc n) marks a = ones_laid n (set marks a 1) (a + 1) ∙ ap (λ l. laid l (a + 1) (replicate n 1)) (ones_set marks a)

-- a sheet of 256 bytes whose marks are 0 and 1
pub record Tidy (s : Sheet) : Type 0 where
  pub whole : Whole s
  pub ones : ones_of s.marks ≡ s.marks

module _ (base : List ℕ) (base-long : length base ≡ 256) where
  onto_whole : {s : Sheet} → Whole s → Whole (onto base s)
  onto_whole {s} whole = record { image = overlaid_length base s.image s.marks ∙ base-long; marks = whole.marks }

  -- one reading goes as the other, over the base
  Beside : Sheet → Sheet → Type 0
  Beside t s = (t ≡ onto base s) × Tidy s

  Keeps : Progress → Progress → Type 0
  Keeps (goes t) (goes s) = Beside t s
  Keeps (goes t) (ended s) = ⊥
  Keeps (goes t) (refused b) = ⊥
  Keeps (ended t) (goes s) = ⊥
  Keeps (ended t) (ended s) = Beside t s
  Keeps (ended t) (refused b) = ⊥
  Keeps (refused a) (goes s) = ⊥
  Keeps (refused a) (ended s) = ⊥
  Keeps (refused a) (refused b) = a ≡ b

  Ends : Outcome → Outcome → Type 0
  Ends (accepted t) (accepted s) = Beside t s
  Ends (accepted t) (rejected b) = ⊥
  Ends (rejected a) (accepted s) = ⊥
  Ends (rejected a) (rejected b) = a ≡ b

  placed_beside :
      (s : Sheet) (a : ℕ) (held : List ℕ) → Tidy s → (0 < length held → a + length held ≤ 256) → Beside (placed (onto base s) a held) (placed s a held)
  unfolding Beside
  placed_beside s a held tidy inside =
      let whole = tidy.whole in
      let here = placed_laid s a held whole inside in
      let there = placed_laid (onto base s) a held (onto_whole whole) inside in
      let over = overlaid_laid base s.image s.marks a held (base-long ∙ sym whole.image) (whole.image ∙ sym whole.marks) in (
        there ∙ sym (ap (onto base) here ∙ ap (λ image. sheet image (laid s.marks a (replicate (length held) 1))) over),
        record {
          whole = placed_whole s a held whole inside;
          ones =
              subst (λ t. ones_of t.marks ≡ t.marks) (sym here)
              (ones_laid (length held) s.marks a ∙ ap (λ marks. laid marks a (replicate (length held) 1)) tidy.ones);
        },
      )

  put_keeps : (number : ℕ) (s : Sheet) (a : ℕ) (held : List ℕ) → Tidy s → Keeps (put number (onto base s) a held) (put number s a held)
  unfolding put Keeps
  put_keeps number s a held tidy =
      by (ltb 0 (length held)) (ltb 256 (a + length held)) (some (IsNot 0) (take (length held) (drop a s.marks))) refl refl
    where
      by :
          (are past twice : Bool) → ltb 0 (length held) ≡ are → ltb 256 (a + length held) ≡ past →
          Keeps
          (cond (are && past) (refused (23 ∷ number ∷ [])) (cond twice (refused (24 ∷ number ∷ [])) (goes (placed (onto base s) a held))))
          (cond (are && past) (refused (23 ∷ number ∷ [])) (cond twice (refused (24 ∷ number ∷ [])) (goes (placed s a held))))
      by true true twice h p = refl
      by true false true h p = refl
      by true false false h p = placed_beside s a held tidy (λ _. ltb-false 256 (a + length held) p)
      by false past true h p = refl
      by false past false h p = placed_beside s a held tidy (λ some. absurd (omega (arith, ltb-false 0 (length held) h)))

  turn_keeps : (row : Row) (number : ℕ) (s : Sheet) → Tidy s → Keeps (after row number (onto base s)) (after row number s)
  unfolding Keeps Beside
  turn_keeps (fills a held) number s tidy = put_keeps number s a held tidy
  turn_keeps ends number s tidy = (refl, tidy)
  turn_keeps (row_refused n) number s tidy = refl

  onward_ends :
      (p q : Progress) (next : Sheet → Outcome) (rest : List ℕ) → Keeps p q → ((s : Sheet) → Tidy s → Ends (next (onto base s)) (next s)) →
      Ends (onward p next rest) (onward q next rest)
  unfolding Keeps Ends Beside
  onward_ends (goes t) (goes s) next rest k all = rw k.0 (all s k.1)
  onward_ends (goes t) (ended s) next rest k all = absurd k
  onward_ends (goes t) (refused b) next rest k all = absurd k
  onward_ends (ended t) (goes s) next rest k all = absurd k
  onward_ends (ended t) (ended s) next [] k all = k
  onward_ends (ended t) (ended s) next (b ∷ rest) k all = refl
  onward_ends (ended t) (refused b) next rest k all = absurd k
  onward_ends (refused a) (goes s) next rest k all = absurd k
  onward_ends (refused a) (ended s) next rest k all = absurd k
  onward_ends (refused a) (refused b) next rest k all = k

  lines_end :
      (number : ℕ) (line : List ℕ) (s : Sheet) (text : List ℕ) → Tidy s →
      Ends (lines_from number line (onto base s) text) (lines_from number line s text)
  unfolding lines_from turn Ends
  lines_end number [] s [] tidy = refl
  lines_end number (c ∷ line) s [] tidy = refl
  lines_end number line s (b ∷ rest) tidy =
      by (eqb b 0x0a)
      (onward (after (row_of line) number (onto base s)) next rest)
      (onward (after (row_of line) number s) next rest)
      (lines_from number (line ++ (b ∷ [])) (onto base s) rest)
      (lines_from number (line ++ (b ∷ [])) s rest)
      (onward_ends
      (after (row_of line) number (onto base s))
      (after (row_of line) number s)
      next
      rest
      (turn_keeps (row_of line) number s tidy)
      (λ s tidy. lines_end (number + 1) [] s rest tidy))
      (lines_end number (line ++ (b ∷ [])) s rest tidy)
    where
      next : Sheet → Outcome
      next s = lines_from (number + 1) [] s rest

      by : (end : Bool) (o p q r : Outcome) → Ends o p → Ends q r → Ends (cond end o q) (cond end p r)
      by true o p q r e f = e
      by false o p q r e f = f

-- clear marks lay nothing over
overlaid_clear : (n : ℕ) (base image : List ℕ) → overlaid base image (replicate n 0) ≡ base
unfolding overlaid
overlaid_clear n [] image = refl
overlaid_clear n (x ∷ xs) [] = refl
overlaid_clear zero (x ∷ xs) (b ∷ bs) = refl
overlaid_clear (suc n) (x ∷ xs) (b ∷ bs) = ap (λ l. x ∷ l) (overlaid_clear n xs bs)

ones_clear : (n : ℕ) → ones_of (replicate n 0) ≡ replicate n 0
unfolding ones_of
ones_clear zero = refl
ones_clear (suc n) = ap (λ l. 0 ∷ l) (ones_clear n)

-- a sheet, as the map that it is
module _ (s : Sheet) where
  map_over_lem :
      (base : List ℕ) (k : ℕ) → k + length base ≡ length s.image → k + length base ≡ length s.marks →
      overlaid base (drop k s.image) (drop k s.marks) ≡ map_over (cell_at s) k base
  unfolding overlaid map_over
  map_over_lem [] k i m = refl
  map_over_lem (b ∷ bs) k i m =
      rw (drop-cons s.image k 0 (omega arith), drop-cons s.marks k 0 (omega arith), ← add-one k)
      (either (eqb (get_or s.marks k 0) 0) (map_over_lem bs (k + 1) (omega arith) (omega arith)))
    where
      either :
          (c : Bool) {l k' : List ℕ} → l ≡ k' →
          cond c b (get_or s.image k 0) ∷ l ≡ byte_or b (cond c clear (holds (get_or s.image k 0))) ∷ k'
      either true e = ap (λ l. b ∷ l) e
      either false e = ap (λ l. get_or s.image k 0 ∷ l) e

  marks_over_lem :
      (found : List ℕ) (k : ℕ) → k + length found ≡ length s.marks →
      ones_of (drop k s.marks) ≡ marks_over (cell_at s) k found
  unfolding ones_of marks_over
  marks_over_lem [] k m = rw (drop_of_length-le s.marks {i = k} (omega arith))
  marks_over_lem (b ∷ bs) k m =
      let first : drop k s.marks ≡ get_or s.marks k 0 ∷ drop (k + 1) s.marks = rw (add-one k) (drop-cons s.marks k 0 (omega arith)) in
      ap ones_of first ∙ either (eqb (get_or s.marks k 0) 0) (marks_over_lem bs (k + 1) (omega arith))
    where
      either :
          (c : Bool) {l k' : List ℕ} → l ≡ k' → cond c 0 1 ∷ l ≡ mark (cond c clear (holds (get_or s.image k 0))) ∷ k'
      either true e = ap (λ l. 0 ∷ l) e
      either false e = ap (λ l. 1 ∷ l) e

module _ (image marks : List ℕ) (image-long : length image ≡ 256) (marks-long : length marks ≡ 256) where
  meant : (o p : Outcome) → Ends image image-long o p → told_by o image marks ≡ onto_image (meaning_by p) image marks
  unfolding Ends Beside
  meant (accepted t) (accepted s) k =
      let whole = k.1.whole in
      ap (λ t. told (0 ∷ []) t.image t.marks) k.0
      ∙ ap (λ bytes. told (0 ∷ []) bytes s.marks) (map_over_lem s image 0 (omega (arith, whole.image)) (omega (arith, whole.marks)))
      ∙ ap (told (0 ∷ []) (map_over (cell_at s) 0 image)) (sym k.1.ones ∙ marks_over_lem s marks 0 (omega (arith, whole.marks)))
  meant (accepted t) (rejected b) k = absurd k
  meant (rejected a) (accepted s) k = absurd k
  meant (rejected a) (rejected b) k = ap (λ answer. told answer image marks) k

  -- what a reading answers and leaves is what the text means, put onto the image
  pub reads_as_meant : (text : List ℕ) → reading_of text image marks ≡ onto_image (meaning_of text) image marks
  unfolding reading_of
  reads_as_meant text =
      let none : List ℕ = replicate 256 0 in
      let tidy : Tidy (sheet none none) = record { whole = record { image = refl; marks = refl }; ones = ones_clear 256 } in
      let beside =
      subst (λ base. Ends image image-long (lines_from 1 [] (sheet base none) text) (file_of text none)) (overlaid_clear 256 image none)
      (lines_end image image-long 1 [] (sheet none none) text tidy)
      in
      rw (eq-eqb (length image) 256 image-long, eq-eqb (length marks) 256 marks-long) (meant (file_of text image) (file_of text none) beside)
