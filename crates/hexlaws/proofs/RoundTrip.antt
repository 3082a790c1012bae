-- Reading what the writer wrote gives back which bytes are marked, and each of them.
use mathlib.Core.Path.{◌≡◌, refl, sym, ◌∙◌, ap}
use mathlib.Core.Bool.{Bool, true, false, cond}
use mathlib.Core.List.{List, [], ◌∷◌, ◌++◌, append_assoc}
use Prim.Native.Nat.{ℕ, zero, suc, ◌+◌, ◌≤◌, ◌<◌}
use native.Mathlib.Omega.{arith}
use borrow.Author.Tests.{eq-eqb, ne_eqb, leb-true, leb-false}
use lib.Dec.{eqb, leb}
use lib.ListN.{length, get_or, take, drop, replicate, length-replicate, get_or-replicate, length-drop}
use lib.Seq.{ext_get_or, length-take-le, get_or-take, get_or-drop}
use Rattle.scan.specs.declared.class.Class.TheVariants.{Is}
use Rattle.scan.specs.Class.{passes}
use Rattle.scan.specs.Scan.{first}
use Rattle.fields.specs.Overlay.{overlaid}
use Rattle.fields.specs.Bytes.{Bytes}
use Rattle.fields.proofs.BytesLaws.{bytes_drop, bytes_take}
use Rattle.fields.proofs.OverlayLaws.{overlaid_length}
use Rattle.text.specs.Text.{line_end}
use Rattle.text.proofs.WordLaws.{Above}
use Rattle.hexline.specs.Line.{word_of, line_of}
use Rattle.hexline.specs.Spelling.{digits_of}
use Rattle.hexread.specs.File.{Sheet, sheet, filled, placed, turn, accepted, told_by, lines_from, reading_of}
use Rattle.hexwrite.specs.Writer.{rest, run, text_of}
use Rattle.hexwrite.proofs.RunLaws.{run_short, run_within, run_set, run_unset}
use Rattle.hexwrite.proofs.WalkLaws.{text_rest, rest_none, rest_clear, rest_run}
use Rattle.hexlaws.specs.Back.{ones_of, back_of}
use Rattle.hexlaws.proofs.RowBack.{word_solid, word_row, end_row}
use Rattle.hexlaws.proofs.Placing.{Fits}
use Rattle.hexlaws.proofs.Lines.{line_joined, line_fills}
use Rattle.hexlaws.proofs.Splices.{spliced, splice_same, splice_run, splice_behind, splice_all}

-- a text without blanks holds no LF
solid_line : (l : List ℕ) → Above 47 l → first (Is 0x0a) l ≡ length l
unfolding first passes
solid_line [] solid = refl
solid_line (b ∷ l) solid = rw (ne_eqb b 0x0a (λ e. omega (arith, solid.0, e))) (ap suc (solid_line l solid.1))

ones_length : (marks : List ℕ) → length (ones_of marks) ≡ length marks
unfolding ones_of
ones_length [] = refl
ones_length (m ∷ ms) = ap suc (ones_length ms)

ones_at : (marks : List ℕ) (k : ℕ) → get_or (ones_of marks) k 0 ≡ cond (eqb (get_or marks k 0) 0) 0 1
unfolding ones_of
ones_at [] k = refl
ones_at (m ∷ ms) zero = refl
ones_at (m ∷ ms) (suc k) = ones_at ms k

overlaid_at :
    (other image marks : List ℕ) (k : ℕ) → k < length other → k < length image → k < length marks →
    get_or (overlaid other image marks) k 0 ≡ cond (eqb (get_or marks k 0) 0) (get_or other k 0) (get_or image k 0)
unfolding overlaid
overlaid_at [] image marks k h i m = absurd (omega arith)
overlaid_at (x ∷ xs) [] marks k h i m = absurd (omega arith)
overlaid_at (x ∷ xs) (b ∷ bs) [] k h i m = absurd (omega arith)
overlaid_at (x ∷ xs) (b ∷ bs) (n ∷ ms) zero h i m = refl
overlaid_at (x ∷ xs) (b ∷ bs) (n ∷ ms) (suc k) h i m = overlaid_at xs bs ms k (omega arith) (omega arith) (omega arith)

-- n bytes from a on, by their places
part_length : (l : List ℕ) (a n : ℕ) → a + n ≤ length l → length (take n (drop a l)) ≡ n
part_length l a n h = length-take-le n (drop a l) (omega (arith, length-drop a l))

part_at : (l : List ℕ) (a n i : ℕ) → i < n → get_or (take n (drop a l)) i 0 ≡ get_or l (a + i) 0
part_at l a n i h = get_or-take n (drop a l) i 0 h ∙ get_or-drop a l i 0

part_same :
    (l k : List ℕ) (a n : ℕ) → a + n ≤ length l → a + n ≤ length k → ((i : ℕ) → i < n → get_or l (a + i) 0 ≡ get_or k (a + i) 0) →
    take n (drop a l) ≡ take n (drop a k)
part_same l k a n h g same =
    ext_get_or 0 (take n (drop a l)) (take n (drop a k)) (part_length l a n h ∙ sym (part_length k a n g))
    (λ i j.
    let few : i < n = omega (arith, part_length l a n h) in
    part_at l a n i few ∙ same i few ∙ sym (part_at k a n i few))

-- the end record
end_read : (number : ℕ) (s : Sheet) → lines_from number [] s (line_of 1 0 []) ≡ accepted s
unfolding line_of digits_of first passes turn
end_read number s = line_joined number s (word_of 1 0 []) [] refl ∙ rw end_row

-- a line of data before other text
line_apart :
    (a : ℕ) (held others last : List ℕ) → line_of 0 a held ++ others ++ last ≡ word_of 0 a held ++ (0x0a ∷ (others ++ last))
unfolding line_of
line_apart a held others last =
    append_assoc (word_of 0 a held ++ line_end) others last ∙ append_assoc (word_of 0 a held) line_end (others ++ last)

-- an image with its marks, another to be read onto, and its clear marks
module _
    (image marks other zeros : List ℕ) (image-long : length image ≡ 256) (marks-long : length marks ≡ 256) (other-long : length other ≡ 256)
    (zeros-long : length zeros ≡ 256) (zeros-at : (k : ℕ) → get_or zeros k 0 ≡ 0) (are : Bytes image) where
  over : List ℕ
  over = overlaid other image marks

  -- what is read before an address
  so_far : ℕ → Sheet
  so_far a = sheet (spliced over other a) (spliced (ones_of marks) zeros a)

  over_long : length over ≡ 256
  unfolding over
  over_long = overlaid_length other image marks ∙ other-long

  ones_long : length (ones_of marks) ≡ 256
  ones_long = ones_length marks ∙ marks-long

  module _ (a : ℕ) (low : a < 256) where
    -- over a clear byte
    passed : run a (drop a marks) ≡ 0 → so_far (a + 1) ≡ so_far a
    unfolding over so_far
    passed none =
        let here : a + 0 ≡ a = omega arith in
        let unset : get_or marks a 0 ≡ 0 = rw (get_or-drop a marks 0 0, here) at (run_unset a (drop a marks) none) in
        let test = eq-eqb (get_or marks a 0) 0 unset in
        let byte : get_or over a 0 ≡ get_or other a 0 = rw test at (overlaid_at other image marks a (omega arith) (omega arith) (omega arith)) in
        let mark : get_or (ones_of marks) a 0 ≡ get_or zeros a 0 = rw test at (ones_at marks a) ∙ sym (zeros-at a) in
        ap (λ image. sheet image (spliced (ones_of marks) zeros (a + 1))) (splice_same over other a (omega (arith, over_long)) (omega arith) byte)
        ∙ ap (sheet (spliced over other a)) (splice_same (ones_of marks) zeros a (omega (arith, ones_long)) (omega arith) mark)

    module _ (n : ℕ) (is : run a (drop a marks) ≡ n) where
      run_inside : a + n ≤ 256
      run_inside = omega (arith, run_within a (drop a marks), length-drop a marks)

      set : (i : ℕ) → i < n → get_or marks (a + i) 0 ≡ 0 → ⊥
      set i h e = run_set a (drop a marks) i (omega arith) (get_or-drop a marks i 0 ∙ e)

      held_long : length (take n (drop a image)) ≡ n
      held_long = part_length image a n (omega (arith, run_inside))

      -- the run's bytes and marks
      run_bytes : take n (drop a over) ≡ take n (drop a image)
      unfolding over
      run_bytes =
          part_same over image a n (omega (arith, over_long, run_inside)) (omega (arith, run_inside))
          (λ i h.
          rw (ne_eqb (get_or marks (a + i) 0) 0 (set i h))
          at (overlaid_at other image marks (a + i) (omega (arith, run_inside)) (omega (arith, run_inside)) (omega (arith, run_inside))))

      run_marks : take n (drop a (ones_of marks)) ≡ replicate n 1
      run_marks =
          let long = part_length (ones_of marks) a n (omega (arith, ones_long, run_inside)) in
          ext_get_or 0 (take n (drop a (ones_of marks))) (replicate n 1) (long ∙ sym (length-replicate n 1))
          (λ i h.
          let few : i < n = omega (arith, long) in
          let one = rw (ne_eqb (get_or marks (a + i) 0) 0 (set i few)) at (ones_at marks (a + i)) in
          part_at (ones_of marks) a n i few ∙ one ∙ sym (get_or-replicate n i 1 0 few))

      -- behind a run
      read_run : placed (so_far a) a (take n (drop a image)) ≡ so_far (a + n)
      unfolding over so_far
      read_run =
          let held = take n (drop a image) in
          let ones : List ℕ = replicate (length held) 1 in
          let ones-size : length ones ≡ n = length-replicate {A = ℕ} (length held) 1 ∙ held_long in
          let marks-there : take n (drop a (ones_of marks)) ≡ ones = run_marks ∙ ap (λ k. replicate k 1) (sym held_long) in
          ap (λ image. sheet image (filled (spliced (ones_of marks) zeros a) a ones))
          (splice_run over other a n held (omega (arith, over_long)) held_long run_bytes)
          ∙ ap (sheet (spliced over other (a + n)))
          (splice_run (ones_of marks) zeros a n ones (omega (arith, ones_long)) ones-size marks-there)

      run_fits : Fits (so_far a) a (take n (drop a image))
      unfolding so_far
      run_fits = record { inside = λ _. rw held_long run_inside; clear = λ i h j. splice_behind (ones_of marks) zeros a i (omega (arith, ones_long)) h ∙ zeros-at i }

  all_read : (a number : ℕ) → a ≡ 256 → lines_from number [] (so_far a) (rest image marks a ++ line_of 1 0 []) ≡ accepted (so_far 256)
  all_read a number e = rw (rest_none image marks a (omega arith), e) (end_read number (so_far 256))

  -- the records that are left, and the end record, lead from what is read so far to all of it
  left_read :
      (fuel a number : ℕ) → a ≤ 256 → 256 ≤ a + fuel →
      lines_from number [] (so_far a) (rest image marks a ++ line_of 1 0 []) ≡ accepted (so_far 256)
  left_read zero a number low reach = all_read a number (omega arith)
  left_read (suc fuel) a number low reach = by (leb 256 a) refl (run a (drop a marks)) refl (left_read fuel)
    where
      by :
          (end : Bool) → leb 256 a ≡ end → (n : ℕ) → run a (drop a marks) ≡ n →
          ((b number : ℕ) → b ≤ 256 → 256 ≤ b + fuel →
          lines_from number [] (so_far b) (rest image marks b ++ line_of 1 0 []) ≡ accepted (so_far 256)) →
          lines_from number [] (so_far a) (rest image marks a ++ line_of 1 0 []) ≡ accepted (so_far 256)
      by true e n is next = all_read a number (omega (arith, leb-true 256 a e))
      by false e zero is next =
          let inside = leb-false 256 a e in
          rw (rest_clear image marks a is, ← passed a inside is) (next (a + 1) number (omega arith) (omega arith))
      by false e (suc n) is next =
          let inside = leb-false 256 a e in
          let held = take (suc n) (drop a image) in
          let few : length held < 256 = omega (arith, held_long a inside (suc n) is, run_short a (drop a marks)) in
          let bytes : Bytes held = bytes_take (suc n) (drop a image) (bytes_drop a image are) in
          rw (rest_run image marks a is (omega arith) (omega arith), line_apart a held (rest image marks (a + suc n)) (line_of 1 0 []))
          (line_fills
          number
          (so_far a)
          (word_of 0 a held)
          (rest image marks (a + suc n) ++ line_of 1 0 [])
          (so_far 256)
          (solid_line (word_of 0 a held) (word_solid a held (omega arith) few bytes))
          (word_row a held (omega arith) few bytes)
          (run_fits a inside (suc n) is)
          (rw (read_run a inside (suc n) is) (next (a + suc n) (number + 1) (omega (arith, run_inside a inside (suc n) is)) (omega arith))))

zeros_clear : (n k : ℕ) → get_or {A = ℕ} (replicate n 0) k 0 ≡ 0
zeros_clear zero k = refl
zeros_clear (suc n) zero = refl
zeros_clear (suc n) (suc k) = zeros_clear n k

module _
    (image marks other found : List ℕ) (image-long : length image ≡ 256) (marks-long : length marks ≡ 256) (other-long : length other ≡ 256)
    (found-long : length found ≡ 256) (are : Bytes image) where
  -- "Reading what it wrote gives back which bytes are marked, and each of them."
  pub read_written : reading_of (text_of image marks) other found ≡ back_of image marks other
  unfolding reading_of so_far over
  read_written =
      let zeros : List ℕ = replicate 256 0 in
      let over = overlaid other image marks in
      let over-size : length over ≡ 256 = overlaid_length other image marks ∙ other-long in
      let ones-size : length (ones_of marks) ≡ 256 = ones_length marks ∙ marks-long in
      rw (eq-eqb (length other) 256 other-long, eq-eqb (length found) 256 found-long, text_rest image marks)
      (ap (λ o. told_by o other found)
      (left_read image marks other zeros image-long marks-long other-long refl (zeros_clear 256) are 256 0 1 (omega arith) (omega arith))
      ∙ rw (splice_all over other 256 (omega arith) (omega arith), splice_all (ones_of marks) zeros 256 (omega arith) (omega arith)))

  -- the writer's text is always accepted
  pub written_accepted : (reading_of (text_of image marks) other found).answer ≡ 0 ∷ []
  written_accepted = ap (λ r. r.answer) read_written
