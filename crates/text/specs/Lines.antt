-- A line of words and numbers: "words and numbers on a line are parted by one space".
use Rattle.std.specs.Prelude.{ℕ, ◌+◌, cond, List, [], ◌∷◌, ◌++◌, ltb, set, replicate}
use Rattle.text.specs.declared.line.Line.{Line}
use Rattle.text.specs.Decimal.{decimal}
use Rattle.text.specs.Text.{codes}

abbrev pub empty_line : Line
empty_line = record { bytes = replicate 64 0; length = 0 }

-- a byte more, where there is room
abbrev pub put : Line → ℕ → Line
put l b =
    cond (ltb l.length 64) (record { bytes = set l.bytes l.length b; length = l.length + 1 }) l

unfoldable pub appended : Line → List ℕ → Line
appended l [] = l
appended l (b ∷ bs) = appended (put l b) bs

-- the line that has this text
abbrev pub lined : List ℕ → Line
lined text = appended empty_line text

abbrev pub named : List ℕ → ℕ → List ℕ
named name n = codes " " ++ name ++ codes " " ++ decimal n
