-- Laws of what is laid: what each turn of the code does, and what is past an end.
use mathlib.Core.Path.{◌≡◌, refl, ap}
use mathlib.Core.List.{List, [], ◌∷◌}
use Prim.Native.Nat.{ℕ, ◌+◌, ◌-◌, ◌≤◌, ◌<◌}
use native.Mathlib.Numerals.{add-one}
use native.Mathlib.Omega.{arith}
use lib.ListN.{length, get_or, set, take, drop}
use lib.Seq.{drop-cons, set_out, take_all}
use Rattle.fields.specs.Lay.{changed, laid}

-- fewer than two bytes change nothing
pub changed_short : (memory pairs : List ℕ) → length pairs < 2 → changed memory pairs ≡ memory
changed_short memory [] h = refl
changed_short memory (address ∷ []) h = refl
changed_short memory (address ∷ byte ∷ rest) h = absurd (omega arith)

pub changed_pair :
    (memory pairs : List ℕ) → 2 ≤ length pairs →
    changed (set memory (get_or pairs 0 0) (get_or pairs 1 0)) (take (length pairs - 2) (drop 2 pairs)) ≡ changed memory pairs
changed_pair memory [] h = absurd (omega arith)
changed_pair memory (address ∷ []) h = absurd (omega arith)
changed_pair memory (address ∷ byte ∷ rest) h =
    ap (changed (set memory address byte)) (take_all (length (address ∷ byte ∷ rest) - 2) rest (omega arith))

-- past the end of the buffer nothing is laid
pub laid_out : (buffer : List ℕ) (at : ℕ) (bytes : List ℕ) → length buffer ≤ at → laid buffer at bytes ≡ buffer
laid_out buffer at [] h = refl
laid_out buffer at (b ∷ bs) h = rw (set_out buffer at b h) (laid_out buffer (at + 1) bs (omega arith))

-- Laws that stand for themselves.
pub laid_byte :
    (buffer bytes : List ℕ) (at i : ℕ) → i < length bytes →
    laid buffer at (drop i bytes) ≡ laid (set buffer at (get_or bytes i 0)) (at + 1) (drop (i + 1) bytes)
laid_byte buffer bytes at i h = rw (add-one i, drop-cons bytes i 0 h)

pub ruleset change_laws = (changed_short, changed_pair)
