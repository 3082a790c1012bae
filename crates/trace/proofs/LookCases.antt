-- What a look comes to, by how the machine stands before it: halted, at its limit, or with a step to take.
use mathlib.Core.Path.{◌≡◌, refl, sym, ◌∙◌, ap}
use mathlib.Core.Bool.{true, false}
use mathlib.Core.List.{List, [], ◌∷◌}
use Prim.Native.Nat.{ℕ, ◌≤◌, ◌<◌}
use native.Mathlib.Omega.{arith}
use borrow.Author.Tests.{le-leb, lt-leb}
use Rattle.effect.specs.Numbers.{fault_number, number_of}
use Rattle.effect.proofs.Laws.{fault_high}
use Rattle.std.specs.Prelude.{Result, Ok, Err}
use Rattle.nanocore.specs.declared.answer.Completed.{Completed}
use Rattle.nanocore.specs.declared.answer.Completed.TheVariants.{Stepped, Halted}
use Rattle.nanocore.specs.declared.answer.Outcome.{Outcome}
use Rattle.nanocore.specs.declared.answer.StepRefusal.{StepRefusal}
use Rattle.nanocore.specs.declared.answer.StepRefusal.TheVariants.{AlreadyHalted, CountFull}
use Rattle.nanocore.specs.Machine.{most_count}
use Rattle.nanocore.specs.Numbers.{step_number, stepping}
use Rattle.nanocore.specs.Step.{Situation, refused_at, situated, step_of}
use Rattle.nanocore.proofs.RunLaws.{turns_one, turns_plain}
use Rattle.steps.specs.Trace.{completed}
use Rattle.trace.specs.Look.{look_after, look_number, look_of}
use Rattle.trace.specs.Seen.{as_look}

-- what the code makes of the step's answer is what the definition does
as_look_lem :
    (a : Result Completed StepRefusal) (limit : ℕ) (s : Situation) → (number_of (step_number a) ≡ 2 → ⊥) → (number_of (step_number a) ≡ 9 → ⊥) →
    refused_at (look_number (as_look a limit)) s ≡ look_after (completed (step_number a)) (refused_at (step_number a) s)
as_look_lem (Ok Stepped) limit s two nine = refl
as_look_lem (Ok Halted) limit s two nine = refl
as_look_lem (Err AlreadyHalted) limit s two nine = absurd (two refl)
as_look_lem (Err (StepRefusal.Fault f)) limit s two nine = rw (lt-leb (number_of (fault_number f)) 1 (fault_high f))
as_look_lem (Err CountFull) limit s two nine = absurd (nine refl)

-- the step of a look answers neither 2 nor 9
step_plain :
    (input : List ℕ) (s : Situation) → s.machine.halted ≡ false → s.machine.count < most_count →
    (number_of (step_of input s).answer ≡ 2 → ⊥) × (number_of (step_of input s).answer ≡ 9 → ⊥)
step_plain input s h below = rw (← turns_one input s h) (turns_plain input 1 s (omega arith))

-- by how the machine stands before the look
module _ (input : List ℕ) (s : Situation) where
  pub look_halted : s.machine.halted ≡ true → look_of input s ≡ refused_at (1 ∷ []) s
  unfolding look_of
  look_halted h = rw h

  pub look_full :
      s.machine.halted ≡ false → s.machine.limit ≤ s.machine.count → look_of input s ≡ refused_at (10 ∷ s.machine.limit ∷ []) s
  unfolding look_of
  look_full h b = rw (h, le-leb _ _ b)

  look_taken :
      s.machine.halted ≡ false → s.machine.count < s.machine.limit →
      look_of input s ≡ look_after (completed (step_of input s).answer) (step_of input s)
  unfolding look_of
  look_taken h b = rw (h, lt-leb _ _ b)

pub look_stepped :
    (input : List ℕ) (s : Situation) (last : Outcome (Result Completed StepRefusal)) (out : List ℕ) → s.machine.halted ≡ false →
    s.machine.count < s.machine.limit → s.machine.limit ≤ most_count → stepping last out ≡ step_of input s →
    refused_at (look_number (as_look last.answer s.machine.limit)) (situated last.machine last.place out last.written)
    ≡ look_of input s
look_stepped input s last out h b most e =
    let number : number_of (step_number last.answer) ≡ number_of (step_of input s).answer = ap (λ r. number_of r.answer) e in
    let plain = step_plain input s h (omega arith) in
    as_look_lem last.answer s.machine.limit _ (λ z. plain.0 (sym number ∙ z)) (λ z. plain.1 (sym number ∙ z))
    ∙ ap (λ r. look_after (completed r.answer) r) e
    ∙ sym (look_taken input s h b)
