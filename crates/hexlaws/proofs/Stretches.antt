-- Bytes laid in stretches: what is left of the others, and that two stretches that do not meet may be laid in either order.
use mathlib.Core.Path.{◌≡◌, refl, sym, ◌∙◌, ap}
use mathlib.Core.Logic.{◌≢◌}
use mathlib.Core.Bool.{Bool, true, false, cond, not}
use mathlib.Core.List.{List, [], ◌∷◌}
use Prim.Native.Nat.{ℕ, zero, suc, ◌+◌, ◌-◌, ◌≤◌, ◌<◌}
use native.Mathlib.Omega.{arith}
use borrow.Author.Tests.{ltb-true, ltb-false, le-ltb, eqb-true, eqb-false}
use lib.Dec.{eqb, ltb}
use lib.ListN.{length, get_or, set, take, drop, replicate, length-set, get_or-eq_default}
use lib.Seq.{set_comm, get_or-set_same, get_or-set_other, get_or-take, get_or-drop}
use Rattle.scan.specs.declared.class.Class.TheVariants.{IsNot}
use Rattle.scan.specs.Class.{passes}
use Rattle.scan.specs.Scan.{first, some}
use Rattle.fields.specs.Lay.{laid}

-- no place of so many from one address on
abbrev pub Outside : ℕ → ℕ → ℕ → Type 0
Outside i a n = a ≤ i → i < a + n → ⊥

pub length_laid : (l : List ℕ) (a : ℕ) (xs : List ℕ) → length (laid l a xs) ≡ length l
length_laid l a [] = refl
length_laid l a (x ∷ xs) = length_laid (set l a x) (a + 1) xs ∙ length-set l a x

set_laid :
    (l : List ℕ) (i v b : ℕ) (ys : List ℕ) → Outside i b (length ys) → laid (set l i v) b ys ≡ set (laid l b ys) i v
set_laid l i v b [] out = refl
set_laid l i v b (y ∷ ys) out =
    let other : i ≢ b = λ e. out (omega (arith, e)) (omega (arith, e)) in
    rw (set_comm l i b v y other) (set_laid (set l b y) i v (b + 1) ys (λ h k. out (omega arith) (omega arith)))

-- two stretches that do not meet
abbrev pub Apart : ℕ → ℕ → ℕ → ℕ → Type 0
Apart a n b m = (i : ℕ) → a ≤ i → i < a + n → Outside i b m

pub laid_swap :
    (l : List ℕ) (a : ℕ) (xs : List ℕ) (b : ℕ) (ys : List ℕ) → Apart a (length xs) b (length ys) →
    laid (laid l a xs) b ys ≡ laid (laid l b ys) a xs
laid_swap l a [] b ys apart = refl
laid_swap l a (x ∷ xs) b ys apart =
    laid_swap (set l a x) (a + 1) xs b ys (λ i h k. apart i (omega arith) (omega arith))
    ∙ ap (λ l. laid l (a + 1) xs) (set_laid l a x b ys (apart a (omega arith) (omega arith)))

-- outside the stretch everything is as it was
pub laid_outside : (l : List ℕ) (a : ℕ) (xs : List ℕ) (k : ℕ) → Outside k a (length xs) → get_or (laid l a xs) k 0 ≡ get_or l k 0
laid_outside l a [] k out = refl
laid_outside l a (x ∷ xs) k out =
    laid_outside (set l a x) (a + 1) xs k (λ h j. out (omega arith) (omega arith))
    ∙ get_or-set_other l a k x 0 (λ e. out (omega (arith, e)) (omega (arith, e)))

-- inside it are the ones
pub laid_ones :
    (n : ℕ) (l : List ℕ) (a k : ℕ) → a ≤ k → k < a + n → a + n ≤ length l → get_or (laid l a (replicate n 1)) k 0 ≡ 1
laid_ones zero l a k h j room = absurd (omega arith)
laid_ones (suc n) l a k h j room = by (eqb k a) refl (laid_ones n (set l a 1) (a + 1) k)
  where
    by :
        (b : Bool) → eqb k a ≡ b →
        (a + 1 ≤ k → k < a + 1 + n → a + 1 + n ≤ length (set l a 1) → get_or (laid (set l a 1) (a + 1) (replicate n 1)) k 0 ≡ 1) →
        get_or (laid (set l a 1) (a + 1) (replicate n 1)) k 0 ≡ 1
    by true e behind =
        let here = eqb-true k a e in
        laid_outside (set l a 1) (a + 1) (replicate n 1) k (λ g f. omega (arith, here)) ∙ rw here (get_or-set_same l a 1 0 (omega arith))
    by false e behind =
        let there = eqb-false k a e in
        behind (omega (arith, there)) (omega arith) (rw (length-set l a 1) (omega arith))

-- where no byte is another than 0
clear_all : (l : List ℕ) → length l ≤ first (IsNot 0) l → (k : ℕ) → get_or l k 0 ≡ 0
unfolding first passes
clear_all [] h k = refl
clear_all (b ∷ l) h k = by (eqb b 0) refl h (clear_all l) k
  where
    by :
        (c : Bool) → eqb b 0 ≡ c → suc (length l) ≤ cond (not c) 0 (suc (first (IsNot 0) l)) →
        (length l ≤ first (IsNot 0) l → (k : ℕ) → get_or l k 0 ≡ 0) → (k : ℕ) → get_or (b ∷ l) k 0 ≡ 0
    by true e h behind zero = eqb-true b 0 e
    by true e h behind (suc k) = behind (omega arith) k
    by false e h behind k = absurd (omega arith)

all_clear : (l : List ℕ) → ((k : ℕ) → get_or l k 0 ≡ 0) → length l ≤ first (IsNot 0) l
unfolding first passes
all_clear [] zeros = omega arith
all_clear (b ∷ l) zeros = by (eqb b 0) refl (all_clear l (λ k. zeros (suc k)))
  where
    by : (c : Bool) → eqb b 0 ≡ c → length l ≤ first (IsNot 0) l → suc (length l) ≤ cond (not c) 0 (suc (first (IsNot 0) l))
    by true e h = omega arith
    by false e h = absurd (eqb-false b 0 e (zeros 0))

-- the marks of a stretch are clear, as the scan says it and place by place
abbrev pub Clear : List ℕ → ℕ → ℕ → Type 0
Clear marks a n = (i : ℕ) → a ≤ i → i < a + n → get_or marks i 0 ≡ 0

pub scan_clear : (marks : List ℕ) (a n : ℕ) → some (IsNot 0) (take n (drop a marks)) ≡ false → Clear marks a n
scan_clear marks a n none i h j =
    let k : a + (i - a) ≡ i = omega arith in
    sym (get_or-take n (drop a marks) (i - a) 0 (omega arith) ∙ get_or-drop a marks (i - a) 0 ∙ ap (λ i. get_or marks i 0) k)
    ∙ clear_all (take n (drop a marks)) (ltb-false _ _ none) (i - a)

taken_few : (n : ℕ) (l : List ℕ) → length (take n l) ≤ n
taken_few zero l = omega arith
taken_few (suc n) [] = omega arith
taken_few (suc n) (x ∷ l) = omega (arith, taken_few n l)

pub clear_scan : (marks : List ℕ) (a n : ℕ) → Clear marks a n → some (IsNot 0) (take n (drop a marks)) ≡ false
clear_scan marks a n clear = le-ltb _ _ (all_clear (take n (drop a marks)) at)
  where
    at : (k : ℕ) → get_or (take n (drop a marks)) k 0 ≡ 0
    at k = by (ltb k n) refl
      where
        by : (b : Bool) → ltb k n ≡ b → get_or (take n (drop a marks)) k 0 ≡ 0
        by true e =
            get_or-take n (drop a marks) k 0 (ltb-true k n e) ∙ get_or-drop a marks k 0
            ∙ clear (a + k) (omega arith) (omega (arith, ltb-true k n e))
        by false e = get_or-eq_default (take n (drop a marks)) 0 (omega (arith, taken_few n (drop a marks), ltb-false k n e))
