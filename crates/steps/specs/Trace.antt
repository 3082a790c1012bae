-- A run is stepping until it ends. The steps are those of the definition, one after the other, and their number is told by their answers alone.
use Rattle.std.specs.Prelude.{ℕ, zero, suc, ◌+◌, ◌≤◌, ◌<◌, ◌≡◌, Bool, true, false, List, [], ◌∷◌, leb}
use Rattle.effect.specs.Numbers.{number_of}
use Rattle.nanocore.specs.Step.{Situation, Answered, refused_at, step_of}
use Rattle.nanocore.specs.Run.{onward}

-- the situation after so many steps
abbrev pub after_steps : ℕ → List ℕ → Situation → Situation
after_steps zero input s = s
after_steps (suc n) input s = after_steps n input (step_of input s).after

-- "0: stepped", "1: halted: a step that executed HLT": the step completed
abbrev pub completed : List ℕ → Bool
completed answer = leb (number_of answer) 1

-- so many completed steps, HLT among them, and where they lead
pub record Reached (input : List ℕ) (s t : Situation) : Type 0 where
  pub steps : ℕ
  pub each : (i : ℕ) → i < steps → completed (step_of input (after_steps i input s)).answer ≡ true
  pub there : t ≡ after_steps steps input s

-- how a run ends where it stands: on a halted machine; at the limit; by a step that does not answer 0
pub data Ended (input : List ℕ) (s : Situation) : Answered → Type 0 where
  halted : s.machine.halted ≡ true → Ended input s (refused_at (1 ∷ []) s)
  limit : s.machine.halted ≡ false → s.machine.limit ≤ s.machine.count → Ended input s (refused_at (10 ∷ s.machine.limit ∷ []) s)
  step :
      s.machine.halted ≡ false → s.machine.count < s.machine.limit → onward (step_of input s).answer ≡ false →
      Ended input s (step_of input s)

pub record Ran (input : List ℕ) (s : Situation) (r : Answered) : Type 0 where
  -- the completed steps that did not halt
  pub steps : ℕ
  -- before each of them the machine was not halted and its count was below its limit, and each answered 0
  pub awake : (i : ℕ) → i < steps → (after_steps i input s).machine.halted ≡ false
  pub below : (i : ℕ) → i < steps → (after_steps i input s).machine.count < (after_steps i input s).machine.limit
  pub stepped : (i : ℕ) → i < steps → (step_of input (after_steps i input s)).answer ≡ 0 ∷ []
  -- after them the run ended
  pub ended : Ended input (after_steps steps input s) r
  -- "The count equals the number of completed non-halting steps, added to where it began."
  pub counted : r.after.machine.count ≡ s.machine.count + steps
  -- the limit is never moved, and a count that began at or below it ends so
  pub limit_kept : r.after.machine.limit ≡ s.machine.limit
  pub within : s.machine.count ≤ s.machine.limit → r.after.machine.count ≤ s.machine.limit
