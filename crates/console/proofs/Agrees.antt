-- "This comes after the step by value and agrees with it": what the lent functions report and leave is what the methods hand back, whole, and a refused
-- step leaves everything as found. From the promises alone.
use mathlib.Core.Path.{◌≡◌, sym, ◌∙◌, ap, subst}
use mathlib.Core.List.{List}
use Prim.Native.Nat.{ℕ, ◌≤◌}
use Rattle.effect.specs.Numbers.{number_of}
use Rattle.std.specs.Prelude.{Result}
use Rattle.nanocore.specs.declared.answer.Completed.{Completed}
use Rattle.nanocore.specs.declared.answer.Handed.{Handed}
use Rattle.nanocore.specs.declared.answer.Outcome.{Outcome}
use Rattle.nanocore.specs.declared.answer.RunRefusal.{RunRefusal}
use Rattle.nanocore.specs.declared.answer.StepRefusal.{StepRefusal}
use Rattle.nanocore.specs.declared.answer.TooLong.{TooLong}
use Rattle.nanocore.specs.declared.machine.Machine.{Machine}
use Rattle.nanocore.specs.Load.{load_of}
use Rattle.nanocore.specs.Numbers.{loading, running, step_number, stepping}
use Rattle.nanocore.specs.Run.{run_of}
use Rattle.nanocore.specs.Step.{Situation, situated, step_of}
use Rattle.steps.proofs.NumberLaws.{load_one, run_one, step_one}
use Rattle.steps.proofs.StepLaws.{refused_same}
use Rattle.console.specs.declared.report.Report.{Report}
use Rattle.console.specs.Reports.{loaded, ran, stepped}

module _ (input : List ℕ) (s : Situation) (m : Machine) (out over : List ℕ) where
  pub step_agrees :
      (r : Report (Result Completed StepRefusal)) (q : Outcome (Result Completed StepRefusal)) → stepped r m out ≡ step_of input s → stepping q over ≡ step_of input s →
      (record { answer = r.answer; machine = m; place = r.place; written = r.written } ≡ q) × (out ≡ over)
  step_agrees r q lent value = step_one _ q out over (lent ∙ sym value)

  pub run_agrees :
      (r : Report (Result Unit RunRefusal)) (q : Outcome (Result Unit RunRefusal)) → ran r m out ≡ run_of input s → running q over ≡ run_of input s →
      (record { answer = r.answer; machine = m; place = r.place; written = r.written } ≡ q) × (out ≡ over)
  run_agrees r q lent value = run_one _ q out over (lent ∙ sym value)

  -- an answer other than 0 and 1 is a refusal
  pub step_untouched :
      (r : Report (Result Completed StepRefusal)) → stepped r m out ≡ step_of input s → 2 ≤ number_of (step_number r.answer) →
      situated m r.place out r.written ≡ s
  step_untouched r lent above =
      ap (λ x. x.after) lent
      ∙ refused_same input s (subst (λ (l : List ℕ). 2 ≤ number_of l) (ap (λ x. x.answer) lent) above)

pub load_agrees :
    (bytes : List ℕ) (start : ℕ) (before m : Machine) (r : Result Unit TooLong) (q : Handed (Result Unit TooLong)) → loaded r m ≡ load_of before bytes start →
    loading q ≡ load_of before bytes start → record { answer = r; machine = m } ≡ q
load_agrees bytes start before m r q lent value = load_one _ q (lent ∙ sym value)
