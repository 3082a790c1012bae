-- The verdict: one line that says how a rule ended, from the paper's number and values of what came back.
use Rattle.std.specs.Prelude.{ℕ, cond, ◌||◌, List, [], ◌∷◌, ◌++◌, eqb}
use Rattle.text.specs.Decimal.{decimal}
use Rattle.text.specs.Lines.{named}
use Rattle.text.specs.Text.{codes, line_end}

-- what the value is that comes with a number: the opcode with 3 and 6, the sp with 4 and 5, the limit with 10
abbrev pub value_name : ℕ → List ℕ
value_name n = cond (eqb n 4 || eqb n 5) (codes "sp") (cond (eqb n 10) (codes "limit") (codes "opcode"))

-- `refused 3`
abbrev pub refusal : ℕ → List ℕ
refusal n = codes "refused " ++ decimal n

-- what came back, in words. The second value of 3 is the pc, which every verdict ends in.
abbrev pub said : List ℕ → List ℕ
said [] = []
said (n ∷ []) = cond (eqb n 1) (codes "halted") (refusal n)
said (n ∷ v ∷ vs) = refusal n ++ named (value_name n) v

-- `halted count 5 pc 6`, `refused 3 opcode 40 count 12 pc 7`
unfoldable pub verdict_of : List ℕ → ℕ → ℕ → List ℕ
verdict_of answer count pc = said answer ++ named (codes "count") count ++ named (codes "pc") pc ++ line_end

-- `refused 11 length 300 start 0`, where nothing ran
unfoldable pub too_long : ℕ → ℕ → List ℕ
too_long length start =
    refusal 11 ++ named (codes "length") length ++ named (codes "start") start ++ line_end
