-- A text that is refused is refused with a number from 20 on: 0 means that it was read.
use mathlib.Core.Bool.{Bool, true, false, cond, ◌&&◌}
use mathlib.Core.List.{List, [], ◌∷◌, ◌++◌}
use Prim.Native.Nat.{ℕ, ◌+◌, ◌≤◌}
use native.Mathlib.Omega.{arith}
use lib.Dec.{eqb, ltb}
use lib.ListN.{length, get_or, take, drop}
use Rattle.scan.specs.declared.class.Class.TheVariants.{IsNot}
use Rattle.scan.specs.Scan.{some}
use Rattle.hexline.specs.Row.{Row, fills, ends, refused as row_refused, shaped, typed, type_of, address_of, data_of, row_by, row_spelled, row_after, row_of, without_return}
use Rattle.hexline.specs.Spelling.{Spelling, spells, nothing, spelled}
use Rattle.hexline.specs.Sum.{sums_to0}
use Rattle.hexread.specs.File.{Sheet, placed, Progress, goes, ended, refused, put, after, turn, Outcome, accepted, rejected, onward, lines_from}

-- what holds of both holds of either
either : {A : Type 0} (P : A → Type 0) (b : Bool) (x y : A) → P x → P y → P (cond b x y)
either P true x y p q = p
either P false x y p q = q

abbrev HighRow : Row → Type 0
HighRow (fills address held) = Unit {0}
HighRow ends = Unit {0}
HighRow (row_refused n) = 20 ≤ n

row_high : (line : List ℕ) → HighRow (row_of line)
unfolding row_of row_by
row_high line = by (without_return line)
  where
    type_high : (bs : List ℕ) → HighRow (typed bs)
    type_high bs =
        either HighRow (eqb (type_of bs) 0) (fills (address_of bs) (data_of bs)) (cond (eqb (type_of bs) 1) ends (row_refused 22)) tt
        (either HighRow (eqb (type_of bs) 1) ends (row_refused 22) tt (omega arith))

    spelling : (s : Spelling) → HighRow (row_spelled s)
    spelling (spells bs) =
        either HighRow (shaped bs) (cond (sums_to0 bs) (typed bs) (row_refused 21)) (row_refused 20)
        (either HighRow (sums_to0 bs) (typed bs) (row_refused 21) (type_high bs) (omega arith))
        (omega arith)
    spelling nothing = omega arith

    by : (l : List ℕ) → HighRow (row_after l)
    by [] = omega arith
    by (c ∷ cs) = either HighRow (eqb c 0x3a) (row_spelled (spelled cs)) (row_refused 20) (spelling (spelled cs)) (omega arith)

abbrev High : Progress → Type 0
High (goes s) = Unit {0}
High (ended s) = Unit {0}
High (refused answer) = 20 ≤ get_or answer 0 0

turn_high : (number : ℕ) (s : Sheet) (line : List ℕ) → High (turn number s line)
unfolding turn put
turn_high number s line = by (row_of line) (row_high line)
  where
    by : (row : Row) → HighRow row → High (after row number s)
    by (fills address held) h =
        let twice = some (IsNot 0) (take (length held) (drop address s.marks)) in
        either
        High
        (ltb 0 (length held) && ltb 256 (address + length held))
        (refused (23 ∷ number ∷ []))
        (cond twice (refused (24 ∷ number ∷ [])) (goes (placed s address held)))
        (omega arith)
        (either High twice (refused (24 ∷ number ∷ [])) (goes (placed s address held)) (omega arith) tt)
    by ends h = tt
    by (row_refused n) h = h

abbrev pub HighEnd : Outcome → Type 0
HighEnd (accepted s) = Unit {0}
HighEnd (rejected answer) = 20 ≤ get_or answer 0 0

onward_high : (p : Progress) (next : Sheet → Outcome) (rest : List ℕ) → High p → ((s : Sheet) → HighEnd (next s)) → HighEnd (onward p next rest)
onward_high (goes s) next rest h all = all s
onward_high (ended s) next [] h all = tt
onward_high (ended s) next (b ∷ rest) h all = omega arith
onward_high (refused answer) next rest h all = h

pub lines_high : (number : ℕ) (line : List ℕ) (s : Sheet) (text : List ℕ) → HighEnd (lines_from number line s text)
unfolding lines_from
lines_high number [] s [] = omega arith
lines_high number (c ∷ line) s [] = omega arith
lines_high number line s (b ∷ rest) =
    let next : Sheet → Outcome = λ s. lines_from (number + 1) [] s rest in
    either
    HighEnd
    (eqb b 0x0a)
    (onward (turn number s line) next rest)
    (lines_from number (line ++ (b ∷ [])) s rest)
    (onward_high (turn number s line) next rest (turn_high number s line) (λ s. lines_high (number + 1) [] s rest))
    (lines_high number (line ++ (b ∷ [])) s rest)
