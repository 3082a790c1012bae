-- One line of a text, with its LF.
use mathlib.Core.Path.{◌≡◌, refl, ◌∙◌, ap}
use mathlib.Core.Bool.{Bool, true, false, cond}
use mathlib.Core.List.{List, [], ◌∷◌, ◌++◌}
use Prim.Native.Nat.{ℕ, suc, ◌+◌}
use native.Mathlib.Omega.{arith}
use lib.Dec.{eqb}
use lib.ListN.{length, length-append}
use lib.Seq.{take-append_seam, drop-append-add}
use Rattle.scan.specs.declared.class.Class.TheVariants.{Is}
use Rattle.scan.specs.Class.{passes}
use Rattle.scan.specs.Scan.{first}
use Rattle.hexline.specs.Row.{fills, row_of}
use Rattle.hexread.specs.File.{Sheet, placed, turn, accepted, onward, lines_from}
use Rattle.hexread.proofs.LineLaws.{line_read}
use Rattle.hexlaws.proofs.Placing.{Fits, fits_goes}

-- the LF behind a line that holds none is the first
first_end : (line rest : List ℕ) → first (Is 0x0a) line ≡ length line → first (Is 0x0a) (line ++ (0x0a ∷ rest)) ≡ length line
unfolding first passes
first_end [] rest h = refl
first_end (b ∷ line) rest h = by (eqb b 0x0a) h (first_end line rest)
  where
    by :
        (end : Bool) → cond end 0 (suc (first (Is 0x0a) line)) ≡ suc (length line) →
        (first (Is 0x0a) line ≡ length line → first (Is 0x0a) (line ++ (0x0a ∷ rest)) ≡ length line) →
        cond end 0 (suc (first (Is 0x0a) (line ++ (0x0a ∷ rest)))) ≡ suc (length line)
    by true h next = absurd (omega arith)
    by false h next = ap suc (next (omega arith))

-- a line with its LF, before the rest
pub line_joined :
    (number : ℕ) (s : Sheet) (line rest : List ℕ) → first (Is 0x0a) line ≡ length line →
    lines_from number [] s (line ++ (0x0a ∷ rest)) ≡ onward (turn number s line) (λ s. lines_from (number + 1) [] s rest) rest
line_joined number s line rest h =
    let end = first_end line rest h in
    rw (end, take-append_seam line (0x0a ∷ rest), drop-append-add line (0x0a ∷ rest) 1)
    at (line_read number [] s (line ++ (0x0a ∷ rest)) (rw end (omega (arith, length-append line (0x0a ∷ rest)))))

-- a record that fits is placed, and the reading goes on
pub line_fills :
    (number : ℕ) (s : Sheet) (line rest : List ℕ) (t : Sheet) → first (Is 0x0a) line ≡ length line →
    {address : ℕ} {held : List ℕ} → row_of line ≡ fills address held → Fits s address held →
    lines_from (number + 1) [] (placed s address held) rest ≡ accepted t → lines_from number [] s (line ++ (0x0a ∷ rest)) ≡ accepted t
unfolding turn
line_fills number s line rest t h {address} {held} row fits next =
    line_joined number s line rest h ∙ rw (row, fits_goes number address held fits) next
