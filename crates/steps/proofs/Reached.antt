-- Where a run leads, whatever it ended for: to what its completed steps reach. A step that is refused moves nothing.
use mathlib.Core.Path.{◌≡◌, refl, sym}
use mathlib.Core.Bool.{Bool, true, false}
use mathlib.Core.List.{List}
use Prim.Native.Nat.{ℕ, suc, ◌<◌}
use native.Mathlib.Nat.{eq-or-lt_of_le, le_of_suc-le-suc}
use mathlib.Core.Logic.{◌⊎◌, inl, inr}
use borrow.Author.Tests.{leb-false}
use Rattle.nanocore.specs.Run.{run_of}
use Rattle.nanocore.specs.Step.{Situation, Answered, step_of}
use Rattle.steps.specs.Trace.{after_steps, completed, Reached, Ended}
use Rattle.steps.proofs.StepLaws.{refused_same}
use Rattle.steps.proofs.Trace.{ran, one_more}

module _ (input : List ℕ) (s : Situation) where
  -- so many steps, each completed
  abbrev All : ℕ → Type 0
  All n = (i : ℕ) → i < n → completed (step_of input (after_steps i input s)).answer ≡ true

  -- and one more that completed
  onto : (n : ℕ) → All n → completed (step_of input (after_steps n input s)).answer ≡ true → All (suc n)
  onto n all last i h = by (eq-or-lt_of_le (le_of_suc-le-suc h))
    where
      by : (i ≡ n) ⊎ (i < n) → completed (step_of input (after_steps i input s)).answer ≡ true
      by (inl e) = rw e last
      by (inr l) = all i l

  -- the last step: it completed, or it was refused and all is as it was
  last :
      (n : ℕ) → All n → (b : Bool) → completed (step_of input (after_steps n input s)).answer ≡ b →
      Reached input s (step_of input (after_steps n input s)).after
  last n all true h = record { steps = suc n; each = onto n all h; there = sym (one_more n input s) }
  last n all false h =
      record { steps = n; each = all; there = refused_same input (after_steps n input s) (leb-false _ _ h) }

  ended : (n : ℕ) → All n → (r : Answered) → Ended input (after_steps n input s) r → Reached input s r.after
  ended n all r (Ended.halted h) = record { steps = n; each = all; there = refl }
  ended n all r (Ended.limit h b) = record { steps = n; each = all; there = refl }
  ended n all r (Ended.step h b o) = last n all (completed (step_of input (after_steps n input s)).answer) refl

  pub run_reached : Reached input s (run_of input s).after
  run_reached =
      let r = ran input s in
      ended r.steps (λ i h. rw (r.stepped i h)) (run_of input s) r.ended
