-- Every name of the table lies in the source.
use Rattle.std.proofs.Common.{◌≡◌, ℕ, zero, suc, ◌+◌, ◌<◌, ◌≤◌, Bool, true, false, cond, ◌||◌, eqb, ltb, List, [], ◌∷◌, Option, Some, None, Result, Ok, Err, length, get_or, take, drop, set, refl, ◌∙◌, not-suc-le-zero, arith, length-drop, length-set, get_or-set_other, get_or-set_same, ltb-true, eqb-true}
use borrow.Author.Tests.{eqb-false}
use Rattle.scan.specs.declared.class.Class.TheVariants.{Is, IsNot, Solid, High}
use Rattle.scan.specs.Scan.{first, last, some}
use Rattle.scan.proofs.ScanLaws.{first_within, last_within}
use Rattle.source.specs.declared.meaning.Meaning.{Meaning}
use Rattle.source.specs.declared.meaning.Meaning.TheVariants.{Nothing, Bytes, Label}
use Rattle.source.specs.declared.meaning.Unread.{Unread}
use Rattle.source.specs.declared.meaning.Unread.TheVariants.{ShortString, NoOperation}
use Rattle.source.specs.Meaning.{meaning_of}
use Rattle.source.specs.Line.{lines_of, on_first, line_of, trimmed, cut}
use Rattle.table.specs.declared.labels.Labels.{Labels}
use Rattle.table.specs.Table.{no_labels, readdressed, with_label, found}
use Rattle.labels.specs.Pass.{Progress, goes, refused, recorded, labelled, after, turn, pass, told, ended, passed, mapping_of}
use Rattle.labels.specs.Inside.{Inside}
use Rattle.labels.proofs.PassLaws.{bytes_of}

-- a table of 64 entries, whose names lie in a source of n bytes
record Kept (n : ℕ) (t : Labels) : Type 0 where
  places : length t.places ≡ 64
  lengths : length t.lengths ≡ 64
  inside : (i : ℕ) → i < t.count → get_or t.places i 0 + get_or t.lengths i 0 ≤ n

kept_none : (n : ℕ) → Kept n no_labels
kept_none n = record { places = refl; lengths = refl; inside = λ i h. absurd (not-suc-le-zero h) }

kept_readdressed : (n : ℕ) (t : Labels) (i address : ℕ) → Kept n t → Kept n (readdressed t i address)
kept_readdressed n t i address k = record { places = k.places; lengths = k.lengths; inside = k.inside }

kept_with :
    (n : ℕ) (t : Labels) (place size address : ℕ) → t.count < 64 → place + size ≤ n → Kept n t →
    Kept n (with_label t place size address)
kept_with n t place size address room in-it k =
    record {
      places = length-set t.places t.count place ∙ k.places;
      lengths = length-set t.lengths t.count size ∙ k.lengths;
      inside = λ i h. at i h (eqb i t.count) refl;
    }
  where
    at :
        (i : ℕ) → i < t.count + 1 → (b : Bool) → eqb i t.count ≡ b →
        get_or (set t.places t.count place) i 0 + get_or (set t.lengths t.count size) i 0 ≤ n
    at i h true e =
        let last = eqb-true i t.count e in
        let p = get_or-set_same t.places t.count place 0 (omega (arith, k.places)) in
        let l = get_or-set_same t.lengths t.count size 0 (omega (arith, k.lengths)) in
        rw (last, p, l) in-it
    at i h false e =
        let before = eqb-false i t.count e in
        let less : i < t.count = omega (arith, before) in
        rw (
          get_or-set_other t.places t.count i place 0 before,
          get_or-set_other t.lengths t.count i size 0 before,
        ) (k.inside i less)

-- the pass, where it goes on, has such a table
abbrev Keeps : ℕ → Progress → Type 0
Keeps n (goes address t) = Kept n t
Keeps n (refused answer) = Unit {0}

kept_recorded :
    (n : ℕ) (t : Labels) (old : Option ℕ) (place size number address : ℕ) → place + size ≤ n → Kept n t →
    Keeps n (recorded t old place size number address)
kept_recorded n t (Some i) place size number address in-it k = kept_readdressed n t i address k
kept_recorded n t None place size number address in-it k = by (ltb t.count 64) refl
  where
    by :
        (room : Bool) → ltb t.count 64 ≡ room →
        Keeps n (cond room (goes address (with_label t place size address)) (refused (18 ∷ number ∷ [])))
    by true e = kept_with n t place size address (ltb-true t.count 64 e) in-it k
    by false e = tt

shorter : (k : ℕ) (l : List ℕ) → length (take k l) ≤ length l
shorter zero l = omega arith
shorter (suc k) [] = omega arith
shorter (suc k) (x ∷ l) = omega (arith, shorter k l)

trimmed_within : (text : List ℕ) → first Solid text + length (trimmed text) ≤ length text
trimmed_within text =
    let front = drop (first Solid text) text in
    omega (arith, first_within Solid text, length-drop (first Solid text) text, shorter (last Solid front) front)

-- what counts of a line lies behind its blanks in front
line_within : (raw : List ℕ) → first Solid raw + length (line_of raw) ≤ length raw
unfolding line_of
line_within raw =
    omega (
      arith,
      trimmed_within raw,
      shorter (first (Is 0x3b) (trimmed raw)) (trimmed raw),
      trimmed_within (cut (trimmed raw)),
    )

kept_after :
    (m : Result Meaning Unread) (source : List ℕ) (place number address : ℕ) (t : Labels) (raw : List ℕ) →
    place + length raw ≤ length source → Kept (length source) t →
    Keeps (length source) (after m source place number address t raw)
unfolding labelled
kept_after (Ok Nothing) source place number address t raw h k = k
kept_after (Ok (Bytes n)) source place number address t raw h k = k
kept_after (Ok Label) source place number address t raw h k =
    let at = place + first Solid raw in
    let size = last (IsNot 0x3a) (line_of raw) in
    let in-it : at + size ≤ length source = omega (arith, line_within raw, last_within (IsNot 0x3a) (line_of raw)) in
    kept_recorded (length source) t (found source t at size) at size number address in-it k
kept_after (Err ShortString) source place number address t raw h k = tt
kept_after (Err NoOperation) source place number address t raw h k = tt

-- the last line may do without
lines_within : (source : List ℕ) → bytes_of (lines_of source) ≤ length source + 1
unfolding lines_of
lines_within [] = omega arith
lines_within (b ∷ bs) = at (eqb b 0x0a) (lines_of bs) (lines_within bs)
  where
    at : (ends : Bool) (lines : List (List ℕ)) → bytes_of lines ≤ length bs + 1 → bytes_of (cond ends ([] ∷ lines) (on_first b lines)) ≤ suc (length bs) + 1
    at true lines h = omega arith
    at false [] h = omega arith
    at false (line ∷ lines) h = omega arith

kept_pass :
    (source : List ℕ) (place number : ℕ) (p : Progress) (lines : List (List ℕ)) →
    place + bytes_of lines ≤ length source + 1 → Keeps (length source) p → Keeps (length source) (pass source place number p lines)
unfolding pass turn
kept_pass source place number p [] h k = k
kept_pass source place number (goes address t) (raw ∷ lines) h k =
    kept_pass
    source
    (place + (length raw + 1))
    (number + 1)
    (after (meaning_of (line_of raw)) source place number address t raw)
    lines
    (omega arith)
    (kept_after (meaning_of (line_of raw)) source place number address t raw (omega arith) k)
kept_pass source place number (refused answer) (raw ∷ lines) h k = tt

inside_ended : (source : List ℕ) (p : Progress) → Keeps (length source) p → Inside source (ended p).labels
unfolding Inside
inside_ended source (goes address t) k = k.inside
inside_ended source (refused answer) k = (kept_none (length source)).inside

pub names_inside : (source : List ℕ) → Inside source (mapping_of source).labels
unfolding mapping_of Inside
names_inside source = either (ltb 16384 (length source) || some High source)
  where
    either : (long : Bool) → Inside source (cond long (told (15 ∷ []) no_labels) (ended (passed source))).labels
    either true = (kept_none (length source)).inside
    either false =
        inside_ended
        source
        (passed source)
        (kept_pass source 0 1 (goes 0 no_labels) (lines_of source) (omega (arith, lines_within source)) (kept_none (length source)))
