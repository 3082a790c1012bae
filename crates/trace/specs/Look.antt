-- One look of a run: "Run steps until halted. Before each step, if not halted and the count is at or above the limit, it refuses. On a halted
-- machine it answers 1 at once."
use Rattle.std.specs.Prelude.{ℕ, Bool, true, false, Option, Some, None, Result, List, [], ◌∷◌, leb}
use Rattle.nanocore.specs.declared.answer.Outcome.{Outcome}
use Rattle.nanocore.specs.declared.answer.RunRefusal.{RunRefusal}
use Rattle.nanocore.specs.Numbers.{run_number}
use Rattle.nanocore.specs.Step.{Situation, Answered, situated, refused_at, step_of}
use Rattle.steps.specs.Trace.{completed}

-- a completed step, HLT's too, is no answer of the run: there is a next look
abbrev pub look_after : Bool → Answered → Answered
look_after true r = record { answer = []; after = r.after }
look_after false r = r

-- by whether the machine is halted, and whether its count is at or above its limit
abbrev pub look_by : Bool → Bool → Answered → Situation → Answered
look_by true full r s = refused_at (1 ∷ []) s
look_by false true r s = refused_at (10 ∷ s.machine.limit ∷ []) s
look_by false false r s = look_after (completed r.answer) r

-- The answer `[]` means that a step completed, and any other is the run's.
unfoldable pub look_of : List ℕ → Situation → Answered
look_of input s = look_by s.machine.halted (leb s.machine.limit s.machine.count) (step_of input s) s

abbrev pub look_number : Option (Result Unit RunRefusal) → List ℕ
look_number None = []
look_number (Some answer) = run_number answer

-- what a caller has afterwards: the outcome, and the bytes of the lent buffer
abbrev pub looking : Outcome (Option (Result Unit RunRefusal)) → List ℕ → Answered
looking r output = record { answer = look_number r.answer; after = situated r.machine r.place output r.written }
