-- "Each line, ended by LF, is trimmed, cut at its first `;` (inside quotes too) and trimmed."
use Rattle.std.specs.Prelude.{ℕ, ◌-◌, cond, List, [], ◌∷◌, eqb, take, drop}
use Rattle.scan.specs.declared.class.Class.TheVariants.{Is, Solid}
use Rattle.scan.specs.Scan.{first, last}
use Rattle.source.specs.declared.line.Span.{Span}

-- a byte before those of the first line
abbrev pub on_first : ℕ → List (List ℕ) → List (List ℕ)
on_first b [] = (b ∷ []) ∷ []
on_first b (line ∷ lines) = (b ∷ line) ∷ lines

-- the lines of a source: LF, 0x0A, ends each, but the last may do without (decision P1)
unfoldable pub lines_of : List ℕ → List (List ℕ)
lines_of [] = []
lines_of (b ∷ bs) = cond (eqb b 0x0a) ([] ∷ lines_of bs) (on_first b (lines_of bs))

-- without the blanks at either end
abbrev pub without_front : List ℕ → List ℕ
without_front text = drop (first Solid text) text

abbrev pub without_back : List ℕ → List ℕ
without_back text = take (last Solid text) text

abbrev pub trimmed : List ℕ → List ℕ
trimmed text = without_back (without_front text)

-- `;` is 0x3B
abbrev pub cut : List ℕ → List ℕ
cut text = take (first (Is 0x3b) text) text

unfoldable pub line_of : List ℕ → List ℕ
line_of raw = trimmed (cut (trimmed raw))

-- the bytes of a stretch
abbrev pub spanned : Span → List ℕ → List ℕ
spanned s text = take (s.to - s.from) (drop s.from text)
