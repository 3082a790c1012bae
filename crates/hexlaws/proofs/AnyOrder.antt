-- Where no byte is set twice, the records mean the same in any order.
use mathlib.Core.Path.{◌≡◌, refl, sym, ◌∙◌, ap, subst}
use mathlib.Core.Bool.{Bool, true, false, cond, ◌&&◌}
use mathlib.Core.List.{List, [], ◌∷◌, ◌++◌}
use Prim.Native.Nat.{ℕ, ◌+◌, ◌≤◌, ◌<◌}
use native.Mathlib.Omega.{arith}
use borrow.Author.Tests.{eqb-true}
use lib.Dec.{eqb}
use lib.ListN.{length, get_or, replicate, length-append}
use Rattle.scan.specs.declared.class.Class.TheVariants.{Is}
use Rattle.scan.specs.Scan.{first}
use Rattle.hexline.specs.Row.{Row, fills, ends, refused as row_refused, row_of}
use Rattle.hexread.specs.File.{Sheet, sheet, placed, Progress, goes, ended, refused, put, after, turn, Outcome, accepted, rejected, onward, lines_from, file_of, told_by, reading_of, told}
use Rattle.hexlaws.specs.Order.{Reordered, same, swapped, behind, again, Lines, joined}
use Rattle.hexlaws.proofs.Refusals.{HighEnd, lines_high}
use Rattle.hexlaws.proofs.Lines.{line_joined, line_fills}
use Rattle.hexlaws.proofs.Placing.{Whole, Fits, goes_fits, placed_whole, second_alone, first_behind, placed_swap}

-- a line that the reading goes on behind is a record that fits
record Filled (number : ℕ) (s : Sheet) (line : List ℕ) (next : Sheet → Outcome) (t : Sheet) : Type 0 where
  address : ℕ
  held : List ℕ
  row : row_of line ≡ fills address held
  fits : Fits s address held
  left : next (placed s address held) ≡ accepted t

by_turn : (row : Row) (number : ℕ) (s : Sheet) (line : List ℕ) (next : Sheet → Outcome) (b : ℕ) (rest : List ℕ) (t : Sheet) →
    row_of line ≡ row → onward (after row number s) next (b ∷ rest) ≡ accepted t → Filled number s line next t
by_turn (fills address held) number s line next b rest t row e = put_turn (put number s address held) refl e
  where
    put_turn : (p : Progress) → put number s address held ≡ p → onward p next (b ∷ rest) ≡ accepted t → Filled number s line next t
    put_turn (goes u) is e =
        let fit = goes_fits number address held is in
        record { address = address; held = held; row = row; fits = fit.0; left = ap next fit.1 ∙ e }
    put_turn (ended u) is e = let z : ◌≡◌ {A = ℕ} 0 1 = cc in absurd (omega arith)
    put_turn (refused a) is e = let z : ◌≡◌ {A = ℕ} 0 1 = cc in absurd (omega arith)
by_turn ends number s line next b rest t row e = let z : ◌≡◌ {A = ℕ} 0 1 = cc in absurd (omega arith)
by_turn (row_refused n) number s line next b rest t row e = let z : ◌≡◌ {A = ℕ} 0 1 = cc in absurd (omega arith)

read_line :
    (number : ℕ) (s : Sheet) (line rest : List ℕ) (t : Sheet) → first (Is 0x0a) line ≡ length line → 0 < length rest →
    lines_from number [] s (line ++ (0x0a ∷ rest)) ≡ accepted t → Filled number s line (λ s. lines_from (number + 1) [] s rest) t
unfolding turn
read_line number s line [] t h some e = absurd (omega arith)
read_line number s line (b ∷ rest) t h some e =
    by_turn
    (row_of line)
    number
    s
    line
    (λ s. lines_from (number + 1) [] s (b ∷ rest))
    b
    rest
    t
    refl
    (sym (line_joined number s line (b ∷ rest) h) ∙ e)

joined_some : (lines : List (List ℕ)) (rest : List ℕ) → 0 < length rest → 0 < length (joined lines rest)
joined_some [] rest some = some
joined_some (line ∷ lines) rest some = omega (arith, length-append line (0x0a ∷ joined lines rest))

still_lines : {lines others : List (List ℕ)} → Reordered lines others → Lines lines → Lines others
still_lines same are = are
still_lines swapped are = (are.1.0, (are.0, are.1.1))
still_lines (behind r) are = (are.0, still_lines r are.1)
still_lines (again r q) are = still_lines q (still_lines r are)

reordered :
    {lines others : List (List ℕ)} → Reordered lines others → Lines lines → (rest : List ℕ) → 0 < length rest → (number : ℕ) (s t : Sheet) →
    Whole s → lines_from number [] s (joined lines rest) ≡ accepted t → lines_from number [] s (joined others rest) ≡ accepted t
reordered same are rest some number s t whole e = e
reordered (swapped {a} {b} {lines}) are rest some number s t whole e =
    let f = read_line number s a (joined (b ∷ lines) rest) t are.0 (joined_some (b ∷ lines) rest some) e in
    let g = read_line (number + 1) (placed s f.address f.held) b (joined lines rest) t are.1.0 (joined_some lines rest some) f.left in
    let x = f.address in
    let xs = f.held in
    let y = g.address in
    let ys = g.held in
    line_fills number s b (joined (a ∷ lines) rest) t are.1.0 g.row (second_alone whole x xs y ys f.fits g.fits)
    (line_fills (number + 1) (placed s y ys) a (joined lines rest) t are.0 f.row (first_behind whole x xs y ys f.fits g.fits)
    (rw (placed_swap whole x xs y ys f.fits g.fits) g.left))
reordered (behind {a} {lines} {others} r) are rest some number s t whole e =
    let f = read_line number s a (joined lines rest) t are.0 (joined_some lines rest some) e in
    line_fills number s a (joined others rest) t are.0 f.row f.fits
    (reordered r are.1 rest some (number + 1) (placed s f.address f.held) t (placed_whole s f.address f.held whole f.fits.inside) f.left)
reordered (again r q) are rest some number s t whole e =
    reordered q (still_lines r are) rest some number s t whole (reordered r are rest some number s t whole e)

-- the lines of an accepted text, in any order before the same rest, which has the end record: image and marks afterwards are the same
pub any_order :
    {lines others : List (List ℕ)} → Reordered lines others → Lines lines → (rest : List ℕ) → 0 < length rest → (image marks : List ℕ) →
    (reading_of (joined lines rest) image marks).answer ≡ 0 ∷ [] →
    reading_of (joined others rest) image marks ≡ reading_of (joined lines rest) image marks
unfolding reading_of
any_order {lines} {others} r are rest some image marks e =
    by (eqb (length image) 256) refl (eqb (length marks) 256) (file_of (joined lines rest) image) refl e
  where
    by :
        (i : Bool) → eqb (length image) 256 ≡ i → (m : Bool) → (o : Outcome) → file_of (joined lines rest) image ≡ o →
        (cond (i && m) (told_by o image marks) (told (19 ∷ []) image marks)).answer ≡ 0 ∷ [] →
        cond (i && m) (told_by (file_of (joined others rest) image) image marks) (told (19 ∷ []) image marks)
        ≡ cond (i && m) (told_by o image marks) (told (19 ∷ []) image marks)
    by true long true (accepted t) read e =
        ap (λ o. told_by o image marks)
        (reordered r are rest some 1 (sheet image (replicate 256 0)) t (record { image = eqb-true (length image) 256 long; marks = refl }) read)
    by true long true (rejected a) read e =
        let high : 20 ≤ get_or a 0 0 = subst HighEnd read (lines_high 1 [] (sheet image (replicate 256 0)) (joined lines rest)) in
        absurd (omega (arith, high, ap (λ answer. get_or answer 0 0) e))
    by true long false o read e = refl
    by false long m o read e = refl
