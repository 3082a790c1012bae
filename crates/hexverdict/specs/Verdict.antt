-- The verdict: one line that says what a text of Intel HEX came to, from the paper's number and values, and how many bytes are set.
use Rattle.std.specs.Prelude.{ℕ, cond, List, [], ◌∷◌, ◌++◌, eqb}
use Rattle.text.specs.Decimal.{decimal}
use Rattle.text.specs.Lines.{named}
use Rattle.text.specs.Text.{codes, line_end}

-- `refused 25`
abbrev pub refusal : ℕ → List ℕ
refusal n = codes "refused " ++ decimal n

-- what came back, in words: 0 is that it was read, and the value of a refusal, where it has one, is the line
abbrev pub said : List ℕ → ℕ → List ℕ
said [] count = []
said (n ∷ []) count = cond (eqb n 0) (codes "read " ++ decimal count ++ codes " bytes") (refusal n)
said (n ∷ line ∷ values) count = refusal n ++ named (codes "line") line

-- `read 7 bytes`, `refused 21 line 3`, `refused 25`
unfoldable pub verdict_of : List ℕ → ℕ → List ℕ
verdict_of answer count = said answer count ++ line_end
