-- "Records may come in any order": the same lines, changed about, before the same end.
use Rattle.std.specs.Prelude.{ℕ, ◌≡◌, List, [], ◌∷◌, ◌++◌, length}
use Rattle.scan.specs.declared.class.Class.TheVariants.{Is}
use Rattle.scan.specs.Scan.{first}

-- two neighbours change places, at any place, again and again
pub data Reordered : List (List ℕ) → List (List ℕ) → Type 0 where
  same : {lines : List (List ℕ)} → Reordered lines lines
  swapped : {a b : List ℕ} {lines : List (List ℕ)} → Reordered (a ∷ b ∷ lines) (b ∷ a ∷ lines)
  behind : {a : List ℕ} {lines others : List (List ℕ)} → Reordered lines others → Reordered (a ∷ lines) (a ∷ others)
  again :
      {lines others last : List (List ℕ)} → Reordered lines others → Reordered others last → Reordered lines last

-- no line holds an LF
abbrev pub Lines : List (List ℕ) → Type 0
Lines [] = Unit {0}
Lines (line ∷ lines) = (first (Is 0x0a) line ≡ length line) × Lines lines

-- each line with its LF, before the rest of a text
abbrev pub joined : List (List ℕ) → List ℕ → List ℕ
joined [] rest = rest
joined (line ∷ lines) rest = line ++ (0x0a ∷ joined lines rest)
