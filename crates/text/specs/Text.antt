-- A text in a definition, as the bytes that it stands for.
use Rattle.std.specs.Prelude.{ℕ, List, [], ◌∷◌}
use Prim.Native.Char.{code}
use Prim.Native.String.{String}

-- the codes of a text's characters
abbrev pub codes : String → List ℕ
codes String.[] = []
codes (String.◌∷◌ c s) = code c ∷ codes s

-- LF
abbrev pub line_end : List ℕ
line_end = 10 ∷ []
