-- What a line does to the pass, whose lines are the parts of the source between its LFs.
use Rattle.std.proofs.Common.{◌≡◌, ℕ, ◌+◌, ◌<◌, ◌≤◌, Bool, true, false, cond, eqb, ⊎_elim, List, [], ◌∷◌, ◌++◌, length, get_or, drop, refl, sym, ap, ◌∙◌, zero-add, drop_of_length-le, arith}
use Rattle.std.proofs.lemmas.List.{at_drop_more}
use Rattle.std.proofs.lemmas.List.FromFn.{length-enumerate_from, get_or-enumerate_from}
use Rattle.std.specs.List.{slice_split, onto_first, enumerate_from}
use Rattle.scan.specs.Class.{passes}
use Rattle.scan.specs.Scan.{first, last}
use Rattle.source.specs.Line.{lines_of, line_of}
use Rattle.source.specs.Meaning.{meaning_of}
use Rattle.source.proofs.LineLaws.{lines_parted}
use Rattle.table.specs.declared.labels.Labels.{Labels}
use Rattle.table.specs.Table.{no_labels}
use Rattle.labels.specs.Pass.{Progress, goes, refused, turn, pass, passed}

abbrev pub parts_of : List ℕ → List (List ℕ)
parts_of source = slice_split (λ b. eqb b 0x0a) source

-- how many bytes so many parts have, each with an LF behind it
abbrev pub bytes_of : List (List ℕ) → ℕ
bytes_of [] = 0
bytes_of (raw ∷ lines) = length raw + 1 + bytes_of lines

pub parts_bytes : (source : List ℕ) → bytes_of (parts_of source) ≡ length source + 1
parts_bytes [] = refl
parts_bytes (b ∷ bs) = at (eqb b 0x0a) (parts_of bs) (parts_bytes bs)
  where
    at :
        (ends : Bool) (parts : List (List ℕ)) → bytes_of parts ≡ length bs + 1 →
        bytes_of (cond ends ([] ∷ parts) (onto_first b parts)) ≡ length (b ∷ bs) + 1
    at true parts h = omega arith
    at false [] h = omega arith
    at false (line ∷ lines) h = omega arith

-- a refused line ends the pass
pass_refused :
    (source : List ℕ) (place number : ℕ) (answer : List ℕ) (lines : List (List ℕ)) →
    pass source place number (refused answer) lines ≡ refused answer
unfolding pass
pass_refused source place number answer [] = refl
pass_refused source place number answer (raw ∷ lines) = refl

-- an empty line at the end alters nothing
pass_empty :
    (source : List ℕ) (place number : ℕ) (p : Progress) (lines : List (List ℕ)) →
    pass source place number p (lines ++ ([] ∷ [])) ≡ pass source place number p lines
unfolding pass turn line_of meaning_of first last passes
pass_empty source place number (goes address t) [] = refl
pass_empty source place number (refused answer) [] = refl
pass_empty source place number (goes address t) (raw ∷ lines) =
    pass_empty source (place + (length raw + 1)) (number + 1) (turn source place number address t raw) lines
pass_empty source place number (refused answer) (raw ∷ lines) = refl

pub pass_parts : (source : List ℕ) → pass source 0 1 (goes 0 no_labels) (parts_of source) ≡ passed source
pass_parts source =
    let begun = pass source 0 1 (goes 0 no_labels) in
    ⊎_elim
    (λ e. ap begun e)
    (λ e. ap begun e ∙ pass_empty source 0 1 (goes 0 no_labels) (lines_of source))
    (lines_parted source)

-- what stands at a place of the numbered parts is the number of the place and the part
pub record PartAt (source : List ℕ) (k i : ℕ) (raw : List ℕ) : Type 0 where
  inside : k < length (parts_of source)
  number : i ≡ k
  part : raw ≡ get_or (parts_of source) k raw

pub part_at :
    (source : List ℕ) (k : ℕ) (p : ℕ × List ℕ) →
    (k < length (enumerate_from 0 (parts_of source))) × (p ≡ get_or (enumerate_from 0 (parts_of source)) k p) →
    PartAt source k p.0 p.1
part_at source k p h =
    let inside : k < length (parts_of source) = omega (arith, h.0, length-enumerate_from 0 (parts_of source)) in
    let e : p ≡ (0 + k, get_or (parts_of source) k p.1) = h.1 ∙ get_or-enumerate_from 0 (parts_of source) k p inside in
    record {
      inside = inside;
      number = ap (λ (q : ℕ × List ℕ). q.0) e ∙ zero-add k;
      part = ap (λ (q : ℕ × List ℕ). q.1) e;
    }

-- the k-th part of a source, and what is behind it
module _ (source : List ℕ) (k i place address : ℕ) (t : Labels) (raw : List ℕ) (at : PartAt source k i raw) where
  on : {A : Type 0} (f : List (List ℕ) → A) → f (drop k (parts_of source)) ≡ f (raw ∷ drop (k + 1) (parts_of source))
  on f = at_drop_more f (parts_of source) k raw at.inside ∙ ap (λ r. f (r ∷ drop (k + 1) (parts_of source))) (sym at.part)

  pub bytes_on : bytes_of (drop k (parts_of source)) ≡ length raw + 1 + bytes_of (drop (k + 1) (parts_of source))
  bytes_on = on bytes_of

  pub line_turned :
      (p : Progress) → turn source place (i + 1) address t raw ≡ p →
      pass source place (k + 1) (goes address t) (drop k (parts_of source)) ≡
      pass source (place + (length raw + 1)) (k + 1 + 1) p (drop (k + 1) (parts_of source))
  unfolding pass
  line_turned p turned =
      on (pass source place (k + 1) (goes address t))
      ∙ ap
      (λ p. pass source (place + (length raw + 1)) (k + 1 + 1) p (drop (k + 1) (parts_of source)))
      (ap (λ n. turn source place (n + 1) address t raw) (sym at.number) ∙ turned)

  pub line_refused :
      (answer : List ℕ) → turn source place (i + 1) address t raw ≡ refused answer →
      pass source place (k + 1) (goes address t) (drop k (parts_of source)) ≡ refused answer
  line_refused answer turned =
      line_turned (refused answer) turned
      ∙ pass_refused source (place + (length raw + 1)) (k + 1 + 1) answer (drop (k + 1) (parts_of source))

-- behind the last part the pass is over
pub pass_end :
    (source : List ℕ) (place k : ℕ) (p : Progress) → length (parts_of source) ≤ k →
    pass source place (k + 1) p (drop k (parts_of source)) ≡ p
unfolding pass
pass_end source place k p h = rw (drop_of_length-le (parts_of source) h)
