-- Laws of the bytes at a place.
use mathlib.Core.Path.{◌≡◌, refl, sym, ◌∙◌, ap}
use mathlib.Core.Bool.{Bool, true, false}
use mathlib.Core.List.{List, [], ◌∷◌, ◌++◌}
use Prim.Native.Nat.{ℕ, zero, suc, min, ◌+◌, ◌*◌, ◌-◌, ◌≤◌, ◌<◌}
use native.Mathlib.Nat.{add-zero}
use native.Mathlib.Numerals.{add-one}
use native.Mathlib.Omega.{arith}
use lib.Dec.{ltb}
use lib.ListN.{length, length-drop, get_or, get_or-eq_default, take, drop, drop_of_length-le, replicate}
use lib.Seq.{drop-cons, take-nil, take_all}
use Rattle.std.specs.List.{slice_range}
use Rattle.std.proofs.lemmas.List.{drop-replicate, drop_min, get_or-drop, take_min}
use borrow.Author.Tests.{le-leb, lt-leb, ltb-true, ltb-false}
use Rattle.fields.specs.Read.{byte_at, word_at, stretch}

-- a stretch that the bytes have is a part of them
pub stretch_part : (bytes : List ℕ) (at n : ℕ) → at + n ≤ length bytes → stretch bytes at n ≡ take n (drop at bytes)
stretch_part bytes at zero h = refl
stretch_part bytes at (suc n) h =
    rw (drop-cons bytes at 0 (omega arith), sym (add-one at)) (ap (λ s. byte_at bytes at ∷ s) (stretch_part bytes (at + 1) n (omega arith)))

-- so many bytes as there are, and 0 for each that is wanting
pub stretch_padded :
    (bytes : List ℕ) (from n : ℕ) →
    take n (drop from bytes) ++ replicate (n - length (drop from bytes)) 0 ≡ stretch bytes from n
stretch_padded bytes from zero = let none : 0 - length (drop from bytes) ≡ 0 = omega arith in rw none
stretch_padded bytes from (suc n) = by (ltb from (length bytes)) refl (stretch_padded bytes (from + 1) n)
  where
    by :
        (b : Bool) → ltb from (length bytes) ≡ b →
        take n (drop (from + 1) bytes) ++ replicate (n - length (drop (from + 1) bytes)) 0 ≡ stretch bytes (from + 1) n →
        take (suc n) (drop from bytes) ++ replicate (suc n - length (drop from bytes)) 0 ≡ stretch bytes from (suc n)
    by true is rest =
        let h : from < length bytes = ltb-true from (length bytes) is in
        let less : suc n - suc (length (drop (suc from) bytes)) ≡ n - length (drop (suc from) bytes) = omega arith in
        rw (drop-cons bytes from 0 h, less, ← add-one from) (ap (λ s. byte_at bytes from ∷ s) rest)
    by false is rest =
        let h : length bytes ≤ from = ltb-false from (length bytes) is in
        let next : length bytes ≤ from + 1 = omega arith in
        let nothing : suc n - 0 ≡ suc n = omega arith in
        let same : n - 0 ≡ n = omega arith in
        rw (drop_of_length-le bytes h, get_or-eq_default bytes 0 h, nothing)
        (ap (λ s. 0 ∷ s) (rw (drop_of_length-le bytes next, same, take-nil {A = ℕ} n) at rest))

-- what is copied, and what stands behind it
pub stretch_copied :
    (bytes copied : List ℕ) (from place count n : ℕ) → place ≡ min from (length bytes) →
    count ≡ min (length (take (length bytes - place) (drop place bytes))) n →
    copied ≡ take count (take (length bytes - place) (drop place bytes)) →
    copied ++ drop count (replicate n 0) ≡ stretch bytes from n
stretch_copied bytes copied from place count n at some is =
    let rest : take (length bytes - place) (drop place bytes) ≡ drop from bytes =
    take_all (length bytes - place) (drop place bytes) (omega (arith, length-drop place bytes)) ∙ rw at (drop_min from bytes)
    in
    let size : count ≡ min n (length (drop from bytes)) = rw rest at some ∙ omega arith in
    let left : n - count ≡ n - length (drop from bytes) = omega arith in
    let taken : copied ≡ take n (drop from bytes) = is ∙ rw (rest, size) (take_min n (drop from bytes)) in
    rw (taken, drop-replicate {X = ℕ} count n 0, left) (stretch_padded bytes from n)

pub word_none : (bytes : List ℕ) (at : ℕ) → length bytes < at + 4 → 0 ≡ word_at bytes at
unfolding word_at
word_none bytes at h = rw (lt-leb (at + 4) (length bytes) h)

pub word_some :
    (bytes four : List ℕ) (at : ℕ) → four ≡ slice_range bytes at (length bytes) → 4 ≤ length four → at ≤ length bytes →
    word_at bytes at
    ≡ get_or four 0 0 * 16777216 + get_or four 1 0 * 65536 + get_or four 2 0 * 256 + get_or four 3 0
unfolding word_at
word_some bytes four at e four_long h =
    let all : four ≡ drop at bytes = e ∙ take_all (length bytes - at) (drop at bytes) (omega (arith, length-drop at bytes)) in
    let long : at + 4 ≤ length bytes = omega (arith, ap length all, length-drop at bytes) in
    rw (
      all,
      get_or-drop at bytes 0 0,
      get_or-drop at bytes 1 0,
      get_or-drop at bytes 2 0,
      get_or-drop at bytes 3 0,
      add-zero at,
      le-leb (at + 4) (length bytes) long,
    )
    (omega arith)

-- Laws that stand for themselves: one byte more of a stretch stands at its end.
pub stretch_more :
    (bytes : List ℕ) (at n : ℕ) → stretch bytes at (suc n) ≡ stretch bytes at n ++ (byte_at bytes (at + n) ∷ [])
stretch_more bytes at zero = let here : at ≡ at + 0 = omega arith in ap (λ k. byte_at bytes k ∷ []) here
stretch_more bytes at (suc n) =
    let next : at + 1 + n ≡ at + suc n = omega arith in
    ap (λ s. byte_at bytes at ∷ s)
    (stretch_more bytes (at + 1) n ∙ ap (λ k. stretch bytes (at + 1) n ++ (byte_at bytes k ∷ [])) next)

pub ruleset word_laws = (word_none, word_some)
