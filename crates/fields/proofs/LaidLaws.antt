-- Laws of what is laid: pieces one after the other are their text at once, and a text that fits stands before the rest of its buffer.
use mathlib.Core.Path.{◌≡◌, refl, sym, ◌∙◌, ap}
use mathlib.Core.Bool.{Bool, true, false}
use mathlib.Core.List.{List, [], ◌∷◌, ◌++◌, append_assoc, append-nil}
use Prim.Native.Nat.{ℕ, suc, min, ◌+◌, ◌-◌, ◌≤◌, ◌<◌}
use native.Mathlib.Nat.{zero-add}
use native.Mathlib.Numerals.{add-one}
use native.Mathlib.Omega.{arith}
use borrow.Author.Tests.{ltb-true, ltb-false, leb-true, leb-false}
use borrow.Rule.Slice.PartMut.{put_mid}
use Rattle.std.proofs.lemmas.List.{length-take}
use lib.Dec.{leb, ltb}
use lib.ListN.{length, length-set, set, take, take-append-drop, drop, drop_of_length-le}
use lib.Seq.{drop-drop, sets, sets-eq, take_all}
use Rattle.fields.specs.Lay.{laid}
use Rattle.fields.proofs.LayLaws.{laid_out}

laid_append :
    (buffer : List ℕ) (at : ℕ) (a b : List ℕ) → laid (laid buffer at a) (at + length a) b ≡ laid buffer at (a ++ b)
laid_append buffer at [] b = let here : at + 0 ≡ at = omega arith in rw here
laid_append buffer at (x ∷ a) b =
    let next : at + suc (length a) ≡ at + 1 + length a = omega arith in
    rw next (laid_append (set buffer at x) (at + 1) a b)

pub laid_next :
    {n : ℕ} (buffer : List ℕ) (at : ℕ) (a b : List ℕ) → n ≡ length a →
    laid (laid buffer at a) (at + n) b ≡ laid buffer at (a ++ b)
laid_next buffer at a b e = rw e (laid_append buffer at a b)

as_sets : (buffer : List ℕ) (at : ℕ) (text : List ℕ) → laid buffer at text ≡ sets buffer at text
as_sets buffer at [] = refl
as_sets buffer at (x ∷ text) = rw (add-one at) (as_sets (set buffer at x) (suc at) text)

-- a text that fits stands in its stretch, and the rest is as it was
pub laid_filled :
    (buffer : List ℕ) (at : ℕ) (text : List ℕ) → at + length text ≤ length buffer →
    laid buffer at text ≡ take at buffer ++ text ++ drop (at + length text) buffer
laid_filled buffer at text fits = as_sets buffer at text ∙ sets-eq text buffer at fits

pub laid_whole :
    (buffer text : List ℕ) → length text ≤ length buffer → laid buffer 0 text ≡ text ++ drop (length text) buffer
laid_whole buffer text fits = simp zero-add at (laid_filled buffer 0 text (omega arith))

-- what is laid over as many bytes takes their place
pub laid_over : (old new : List ℕ) → length old ≡ length new → laid old 0 new ≡ new
laid_over old new same =
    laid_whole old new (omega arith) ∙ rw (drop_of_length-le old {i = length new} (omega arith)) (append-nil new)

laid_length : (buffer : List ℕ) (at : ℕ) (text : List ℕ) → length (laid buffer at text) ≡ length buffer
laid_length buffer at [] = refl
laid_length buffer at (x ∷ text) = laid_length (set buffer at x) (at + 1) text ∙ length-set buffer at x

-- what goes past the end is not laid
laid_cut :
    (buffer bytes : List ℕ) (at n : ℕ) → at + n ≡ length buffer → n ≤ length bytes →
    laid buffer at bytes ≡ laid buffer at (take n bytes)
laid_cut buffer bytes at n end some =
    let size : length (take n bytes) ≡ n = length-take n bytes ∙ omega arith in
    ap (laid buffer at) (sym (take-append-drop n bytes))
    ∙ sym (laid_next buffer at (take n bytes) (drop n bytes) (sym size))
    ∙ laid_out (laid buffer at (take n bytes)) (at + n) (drop n bytes) (omega (arith, laid_length buffer at (take n bytes)))

-- what is copied into the buffer from a place on, as far as it goes
pub laid_copied :
    (buffer bytes copied : List ℕ) (place from count : ℕ) → from ≡ min place (length buffer) →
    count ≡ min (length bytes) (length buffer - from) → copied ≡ take count bytes →
    put_mid from (from + count - from) buffer copied ≡ laid buffer place bytes
laid_copied buffer bytes copied place from count at some is = by (ltb place (length buffer)) refl (leb (length bytes) count) refl
  where
    size : from + count - from ≡ count
    size = omega arith

    by :
        (b : Bool) → ltb place (length buffer) ≡ b → (all : Bool) → leb (length bytes) count ≡ all →
        put_mid from (from + count - from) buffer copied ≡ laid buffer place bytes
    by true h all a =
        let inside : place < length buffer = ltb-true place (length buffer) h in
        let here : from ≡ place = omega arith in
        let long : length (take count bytes) ≡ count = length-take count bytes ∙ omega arith in
        let cut : laid buffer place bytes ≡ laid buffer place (take count bytes) = by_all all a here in
        let fits : place + length (take count bytes) ≤ length buffer = omega arith in
        let filled = laid_filled buffer place (take count bytes) fits in
        rw (size, here, is, drop-drop count place buffer)
        (sym (cut ∙ filled ∙ rw long (append_assoc (take place buffer) (take count bytes) (drop (place + count) buffer))))
      where
        by_all : (all : Bool) → leb (length bytes) count ≡ all → from ≡ place → laid buffer place bytes ≡ laid buffer place (take count bytes)
        by_all true a here = ap (laid buffer place) (sym (take_all count bytes (leb-true (length bytes) count a)))
        by_all false a here =
            let more : count < length bytes = leb-false (length bytes) count a in
            laid_cut buffer bytes place count (omega arith) (omega arith)
    by false h all a =
        let past : length buffer ≤ place = ltb-false place (length buffer) h in
        let end : from ≡ length buffer = omega arith in
        let none : count ≡ 0 = omega arith in
        rw (size, is, none) (take-append-drop from buffer ∙ sym (laid_out buffer place bytes past))
