-- What a line does to the reading.
use mathlib.Core.Path.{◌≡◌, refl, sym, ap}
use mathlib.Core.Bool.{Bool, true, false, cond}
use mathlib.Core.List.{List, [], ◌∷◌, ◌++◌, append_assoc, append-nil}
use Prim.Native.Nat.{ℕ, suc, ◌+◌, ◌≤◌, ◌<◌}
use native.Mathlib.Omega.{arith}
use lib.Dec.{eqb}
use lib.ListN.{length, take, drop, length-append, length-drop}
use Rattle.scan.specs.declared.class.Class.TheVariants.{Is}
use Rattle.scan.specs.Class.{passes}
use Rattle.scan.specs.Scan.{first}
use Rattle.hexread.specs.File.{Sheet, IsFirstLine, Progress, ended, Outcome, accepted, rejected, turn, onward, lines_from}

-- a line goes to its LF, and the next one begins behind that
pub line_read :
    (number : ℕ) (line : List ℕ) (s : Sheet) (text : List ℕ) → first (Is 0x0a) text < length text →
    lines_from number line s text ≡
    onward
    (turn number s (line ++ take (first (Is 0x0a) text) text))
    (λ s. lines_from (number + 1) [] s (drop (first (Is 0x0a) text + 1) text))
    (drop (first (Is 0x0a) text + 1) text)
unfolding lines_from first passes
line_read number line s [] h = absurd (omega arith)
line_read number line s (b ∷ rest) h = by (eqb b 0x0a) h (line_read number (line ++ (b ∷ [])) s rest)
  where
    f : ℕ
    f = first (Is 0x0a) rest

    Read : List ℕ → ℕ → List ℕ → Outcome
    Read line end text = onward (turn number s (line ++ take end text)) (λ s. lines_from (number + 1) [] s (drop (end + 1) text)) (drop (end + 1) text)

    by :
        (end : Bool) → cond end 0 (suc f) < suc (length rest) →
        (f < length rest → lines_from number (line ++ (b ∷ [])) s rest ≡ Read (line ++ (b ∷ [])) f rest) →
        cond end (onward (turn number s line) (λ s. lines_from (number + 1) [] s rest) rest) (lines_from number (line ++ (b ∷ [])) s rest) ≡
        Read line (cond end 0 (suc f)) (b ∷ rest)
    by true h next = rw (append-nil line)
    by false h next =
        let behind : suc f + 1 ≡ suc (f + 1) = omega arith in
        rw (behind, ← append_assoc line (b ∷ []) (take f rest)) (next (omega arith))

-- without LF there is no line
pub line_open :
    (number : ℕ) (line : List ℕ) (s : Sheet) (text : List ℕ) → 0 < length line + length text → length text ≤ first (Is 0x0a) text →
    lines_from number line s text ≡ rejected (20 ∷ number ∷ [])
unfolding lines_from first passes
line_open number [] s [] some h = absurd (omega arith)
line_open number (c ∷ line) s [] some h = refl
line_open number line s (b ∷ rest) some h = by (eqb b 0x0a) h (line_open number (line ++ (b ∷ [])) s rest (omega (arith, length-append line (b ∷ []))))
  where
    by :
        (end : Bool) → suc (length rest) ≤ cond end 0 (suc (first (Is 0x0a) rest)) →
        (length rest ≤ first (Is 0x0a) rest → lines_from number (line ++ (b ∷ [])) s rest ≡ rejected (20 ∷ number ∷ [])) →
        cond end (onward (turn number s line) (λ s. lines_from (number + 1) [] s rest) rest) (lines_from number (line ++ (b ∷ [])) s rest) ≡
        rejected (20 ∷ number ∷ [])
    by true h next = absurd (omega arith)
    by false h next = next (omega arith)

-- a last line without LF
pub unclosed :
    (number : ℕ) (s : Sheet) (text : List ℕ) → 0 < length text → length text ≤ first (Is 0x0a) text →
    rejected (20 ∷ number ∷ []) ≡ lines_from number [] s text
unclosed number s text some past = sym (line_open number [] s text (omega arith) past)

pub behind_shorter : (text line behind : List ℕ) → IsFirstLine text line behind → length behind < length text
behind_shorter text line behind first-line =
    omega (arith, first-line.0, ap length first-line.2, simp length-drop at (ap length first-line.2))

-- where a line is whole, what it comes to tells what the text does
pub line_here :
    (number : ℕ) (s : Sheet) (text line behind : List ℕ) {p : Progress} → IsFirstLine text line behind → p ≡ turn number s line →
    onward p (λ s. lines_from (number + 1) [] s behind) behind ≡ lines_from number [] s text
line_here number s text line behind first-line read =
    rw (read, first-line.1, first-line.2) (sym (line_read number [] s text first-line.0))

pub text_behind : (s : Sheet) (next : Sheet → Outcome) (behind : List ℕ) → 0 < length behind → onward (ended s) next behind ≡ rejected (26 ∷ [])
text_behind s next [] some = absurd (omega arith)
text_behind s next (b ∷ behind) some = refl

pub nothing_behind : (s : Sheet) (next : Sheet → Outcome) (behind : List ℕ) → length behind ≡ 0 → onward (ended s) next behind ≡ accepted s
nothing_behind s next [] none = refl
nothing_behind s next (b ∷ behind) none = absurd (omega arith)

pub no_end : (number : ℕ) (s : Sheet) (text : List ℕ) → length text ≡ 0 → rejected (25 ∷ []) ≡ lines_from number [] s text
unfolding lines_from
no_end number s [] none = refl
no_end number s (b ∷ text) none = absurd (omega arith)
