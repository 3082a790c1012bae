-- Laws of the walk through an image: over a clear byte it goes on with the next one, and behind a record with the byte that follows its run.
use mathlib.Core.Path.{◌≡◌, refl, sym, ◌∙◌, ap}
use mathlib.Core.List.{List, [], ◌∷◌, ◌++◌}
use Prim.Native.Nat.{ℕ, zero, suc, ◌+◌, ◌-◌, ◌≤◌, ◌<◌}
use native.Mathlib.Omega.{arith}
use lib.ListN.{length, take, drop, drop_of_length-le, length-drop}
use lib.Seq.{drop-drop}
use Rattle.hexline.specs.Line.{line_of}
use Rattle.hexwrite.specs.Writer.{run, records_from, rest, text_of}
use Rattle.hexwrite.proofs.RunLaws.{run_within}

marks_none : (done address : ℕ) (image : List ℕ) → records_from done address image [] ≡ []
unfolding records_from
marks_none done address [] = refl
marks_none done address (b ∷ bs) = refl

-- bytes that belong to a record that is there already are passed over
skipped :
    (k address : ℕ) (image marks : List ℕ) →
    records_from k address image marks ≡ records_from 0 (address + k) (drop k image) (drop k marks)
unfolding records_from
skipped zero address image marks = let same : address + 0 ≡ address = omega arith in rw same
skipped (suc k) address [] marks = refl
skipped (suc k) address (b ∷ bs) [] = sym (marks_none 0 (address + suc k) (drop k bs))
skipped (suc k) address (b ∷ bs) (m ∷ ms) =
    let next : address + 1 + k ≡ address + suc k = omega arith in
    rw next at (skipped k (address + 1) bs ms)

run_first :
    (n address : ℕ) (image marks : List ℕ) → run address marks ≡ n → 0 < n → 0 < length image →
    records_from 0 address image marks ≡ line_of 0 address (take n image) ++ records_from 0 (address + n) (drop n image) (drop n marks)
unfolding records_from
run_first zero address image marks e set some = absurd (omega arith)
run_first (suc k) address [] marks e set some = absurd (omega arith)
run_first (suc k) address (b ∷ bs) [] e set some = absurd (omega (arith, run_within address []))
run_first (suc k) address (b ∷ bs) (m ∷ ms) e set some =
    let next : address + 1 + k ≡ address + suc k = omega arith in
    let less : suc k - 1 ≡ k = omega arith in
    rw (e, less, ← next) (ap (λ left. line_of 0 address (b ∷ take k bs) ++ left) (skipped k (address + 1) bs ms))

clear_first :
    (address : ℕ) (image marks : List ℕ) → run address marks ≡ 0 →
    records_from 0 address image marks ≡ records_from 0 (address + 1) (drop 1 image) (drop 1 marks)
unfolding records_from
clear_first address [] marks e = refl
clear_first address (b ∷ bs) [] e = sym (marks_none 0 (address + 1) bs)
clear_first address (b ∷ bs) (m ∷ ms) e = rw e

pub text_rest : (image marks : List ℕ) → text_of image marks ≡ rest image marks 0 ++ line_of 1 0 []
unfolding text_of
text_rest image marks = refl

module _ (image marks : List ℕ) (at : ℕ) where
  pub rest_none : length image ≤ at → rest image marks at ≡ []
  unfolding records_from
  rest_none h = rw (drop_of_length-le image h)

  pub rest_clear : run at (drop at marks) ≡ 0 → rest image marks at ≡ rest image marks (at + 1)
  rest_clear unset = clear_first at (drop at image) (drop at marks) unset ∙ rw (drop-drop 1 at image, drop-drop 1 at marks)

  pub rest_run :
      {n : ℕ} → run at (drop at marks) ≡ n → 0 < n → at < length image →
      rest image marks at ≡ line_of 0 at (take n (drop at image)) ++ rest image marks (at + n)
  rest_run {n} is set h =
      run_first n at (drop at image) (drop at marks) is set (omega (arith, length-drop at image))
      ∙ rw (drop-drop n at image, drop-drop n at marks)
