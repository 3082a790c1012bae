-- When a record is placed, and that two that both are may come in either order.
use mathlib.Core.Path.{◌≡◌, refl, sym, ◌∙◌, ap}
use mathlib.Core.Bool.{Bool, true, false, cond, ◌&&◌}
use mathlib.Core.List.{List, [], ◌∷◌}
use Prim.Native.Nat.{ℕ, ◌+◌, ◌≤◌, ◌<◌}
use native.Mathlib.Omega.{arith}
use borrow.Author.Tests.{ltb-true, ltb-false}
use lib.Dec.{ltb}
use lib.ListN.{length, get_or, take, drop, replicate, length-replicate}
use Rattle.scan.specs.declared.class.Class.TheVariants.{IsNot}
use Rattle.scan.specs.Scan.{some}
use Rattle.fields.specs.Lay.{laid}
use Rattle.fields.proofs.LaidLaws.{laid_filled}
use Rattle.hexread.specs.File.{Sheet, sheet, filled, placed, goes, refused, put}
use Rattle.hexread.proofs.PlaceLaws.{filled_none}
use Rattle.hexlaws.proofs.Stretches.{Apart, Clear, length_laid, laid_swap, laid_outside, laid_ones, scan_clear, clear_scan}

-- image and marks are 256 long
pub record Whole (s : Sheet) : Type 0 where
  pub image : length s.image ≡ 256
  pub marks : length s.marks ≡ 256

-- the data lie inside, on bytes that are clear
pub record Fits (s : Sheet) (address : ℕ) (held : List ℕ) : Type 0 where
  pub inside : 0 < length held → address + length held ≤ 256
  pub clear : Clear s.marks address (length held)

pub fits_goes : {s : Sheet} (number address : ℕ) (held : List ℕ) → Fits s address held → put number s address held ≡ goes (placed s address held)
unfolding put
fits_goes {s} number address held f =
    rw (clear_scan s.marks address (length held) f.clear) (by (ltb 0 (length held)) (ltb 256 (address + length held)) refl refl)
  where
    by :
        (some past : Bool) → ltb 0 (length held) ≡ some → ltb 256 (address + length held) ≡ past →
        cond (some && past) (refused (23 ∷ number ∷ [])) (goes (placed s address held)) ≡ goes (placed s address held)
    by true true are is = absurd (omega (arith, f.inside (ltb-true 0 (length held) are), ltb-true 256 (address + length held) is))
    by true false are is = refl
    by false past are is = refl

pub goes_fits :
    {s t : Sheet} (number address : ℕ) (held : List ℕ) → put number s address held ≡ goes t →
    Fits s address held × (placed s address held ≡ t)
unfolding put
goes_fits {s} {t} number address held e =
    by (ltb 0 (length held)) (ltb 256 (address + length held)) (some (IsNot 0) (take (length held) (drop address s.marks))) refl refl refl e
  where
    by :
        (are past twice : Bool) → ltb 0 (length held) ≡ are → ltb 256 (address + length held) ≡ past →
        some (IsNot 0) (take (length held) (drop address s.marks)) ≡ twice →
        cond (are && past) (refused (23 ∷ number ∷ [])) (cond twice (refused (24 ∷ number ∷ [])) (goes (placed s address held))) ≡ goes t →
        Fits s address held × (placed s address held ≡ t)
    by true true twice h p m e = let z : ◌≡◌ {A = ℕ} 0 1 = cc in absurd (omega arith)
    by true false true h p m e = let z : ◌≡◌ {A = ℕ} 0 1 = cc in absurd (omega arith)
    by true false false h p m e =
        (record { inside = λ _. ltb-false 256 (address + length held) p; clear = scan_clear s.marks address (length held) m }, cc)
    by false past true h p m e = let z : ◌≡◌ {A = ℕ} 0 1 = cc in absurd (omega arith)
    by false past false h p m e =
        (record { inside = λ some. absurd (omega (arith, ltb-false 0 (length held) h)); clear = scan_clear s.marks address (length held) m }, cc)

-- what fills a stretch is laid there
filled_laid :
    (l : List ℕ) (a : ℕ) (xs : List ℕ) → length l ≡ 256 → (0 < length xs → a + length xs ≤ 256) → filled l a xs ≡ laid l a xs
filled_laid l a [] long inside = filled_none l a
filled_laid l a (x ∷ xs) long inside = sym (laid_filled l a (x ∷ xs) (omega (arith, inside (omega arith))))

abbrev ones : List ℕ → List ℕ
ones xs = replicate (length xs) 1

ones_length : (xs : List ℕ) → length (ones xs) ≡ length xs
ones_length xs = length-replicate {A = ℕ} (length xs) 1

pub placed_laid :
    (s : Sheet) (address : ℕ) (held : List ℕ) → Whole s → (0 < length held → address + length held ≤ 256) →
    placed s address held ≡ sheet (laid s.image address held) (laid s.marks address (ones held))
placed_laid s address held whole inside =
    let size = ones_length held in
    let image = filled_laid s.image address held whole.image inside in
    let marks = filled_laid s.marks address (ones held) whole.marks (λ some. omega (arith, size, inside (omega (arith, size)))) in
    rw (image, marks)

pub placed_whole :
    (s : Sheet) (address : ℕ) (held : List ℕ) → Whole s → (0 < length held → address + length held ≤ 256) → Whole (placed s address held)
placed_whole s address held whole inside =
    rw (placed_laid s address held whole inside)
    (record {
      image = length_laid s.image address held ∙ whole.image;
      marks = length_laid s.marks address (ones held) ∙ whole.marks;
    })

placed_twice :
    (s : Sheet) (a : ℕ) (xs : List ℕ) (b : ℕ) (ys : List ℕ) → Whole s → (0 < length xs → a + length xs ≤ 256) →
    (0 < length ys → b + length ys ≤ 256) →
    placed (placed s a xs) b ys
    ≡ sheet (laid (laid s.image a xs) b ys) (laid (laid s.marks a (ones xs)) b (ones ys))
placed_twice s a xs b ys whole x-inside y-inside =
    placed_laid (placed s a xs) b ys (placed_whole s a xs whole x-inside) y-inside
    ∙ ap (λ t. sheet (laid t.image b ys) (laid t.marks b (ones ys))) (placed_laid s a xs whole x-inside)

-- two records that are placed one after the other
module _
    {s : Sheet} (whole : Whole s) (a : ℕ) (xs : List ℕ) (b : ℕ) (ys : List ℕ) (first : Fits s a xs) (second : Fits (placed s a xs) b ys) where
  marks_first : (placed s a xs).marks ≡ laid s.marks a (ones xs)
  marks_first = ap (λ t. t.marks) (placed_laid s a xs whole first.inside)

  -- a byte of the second is clear behind the first, so the first has not set it
  apart : Apart a (length xs) b (length ys)
  apart i h j g k =
      let set : get_or (laid s.marks a (ones xs)) i 0 ≡ 1 =
      laid_ones (length xs) s.marks a i h j (omega (arith, whole.marks, first.inside (omega arith)))
      in
      omega (arith, set, second.clear i g k, ap (λ marks. get_or marks i 0) marks_first)

  pub second_alone : Fits s b ys
  second_alone =
      record {
        inside = second.inside;
        clear =
            λ i h j.
            sym (laid_outside s.marks a (ones xs) i (λ g k. apart i g (omega (arith, ones_length xs)) h j))
            ∙ sym (ap (λ marks. get_or marks i 0) marks_first)
            ∙ second.clear i h j;
      }

  pub first_behind : Fits (placed s b ys) a xs
  first_behind =
      record {
        inside = first.inside;
        clear =
            λ i h j.
            ap (λ t. get_or t.marks i 0) (placed_laid s b ys whole second.inside)
            ∙ laid_outside s.marks b (ones ys) i (λ g k. apart i h j g (omega (arith, ones_length ys)))
            ∙ first.clear i h j;
      }

  pub placed_swap : placed (placed s b ys) a xs ≡ placed (placed s a xs) b ys
  placed_swap =
      let image = laid_swap s.image a xs b ys apart in
      let marks =
      laid_swap s.marks a (ones xs) b (ones ys)
      (λ i h j g k. apart i h (omega (arith, ones_length xs)) g (omega (arith, ones_length ys)))
      in
      placed_twice s b ys a xs whole second.inside first.inside
      ∙ sym (rw (image, marks) at (placed_twice s a xs b ys whole first.inside second.inside))
