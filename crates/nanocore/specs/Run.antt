-- "Run steps until halted. Before each step, if not halted and the count is at or above the limit, it refuses. On a halted machine it answers 1
-- at once."
use Rattle.std.specs.Prelude.{ℕ, zero, suc, ◌-◌, Bool, true, false, List, [], ◌∷◌, ◌==◌, nat_le}
use Rattle.nanocore.specs.Step.{Situation, Answered, refused_at, step_of}

-- "0: stepped": the one answer after which there is a next step
abbrev pub onward : List ℕ → Bool
onward [] = false
onward (n ∷ []) = n == 0
onward (n ∷ v ∷ vs) = false

abbrev pub then : Bool → Answered → (Situation → Answered) → Answered
then true r rest = rest r.after
then false r rest = r

-- by whether the machine is halted, and whether its count is at or above its limit; after a step that answers 0 there is a next look
abbrev pub looked : Bool → Bool → Answered → (Situation → Answered) → Situation → Answered
looked true full r rest s = refused_at (1 ∷ []) s
looked false true r rest s = refused_at (10 ∷ s.machine.limit ∷ []) s
looked false false r rest s = then (onward r.answer) r rest

-- at most so many steps; the law `fuel_never_decides` says that limit less count is always enough
unfoldable pub run_by : ℕ → List ℕ → Situation → Answered
run_by zero input s =
    looked s.machine.halted (nat_le s.machine.limit s.machine.count) (step_of input s) (refused_at []) s
run_by (suc k) input s =
    looked s.machine.halted (nat_le s.machine.limit s.machine.count) (step_of input s) (run_by k input) s

abbrev pub run_of : List ℕ → Situation → Answered
run_of input s = run_by (s.machine.limit - s.machine.count) input s
