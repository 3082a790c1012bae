-- Looks make the run: a look that ends is the run's answer where it stands, and one that completed a step leaves a situation with the same run and
-- fewer looks to come.
use mathlib.Core.Path.{◌≡◌, refl, sym, ◌∙◌, ap}
use mathlib.Core.Bool.{Bool, true, false, cond}
use mathlib.Core.List.{List, [], ◌∷◌}
use Prim.Native.Nat.{ℕ, suc, ◌-◌, ◌≤◌, ◌<◌}
use native.Mathlib.Omega.{arith}
use lib.Dec.{leb}
use borrow.Author.Tests.{leb-true, leb-false, lt-leb}
use Rattle.effect.specs.Numbers.{number_of}
use Rattle.effect.proofs.Laws.{fault_high}
use Rattle.std.specs.Prelude.{Option, Some, Result, Ok, Err}
use Rattle.nanocore.specs.declared.answer.Outcome.{Outcome}
use Rattle.nanocore.specs.declared.answer.RunRefusal.{RunRefusal}
use Rattle.nanocore.specs.declared.answer.RunRefusal.TheVariants.{LimitReached}
use Rattle.nanocore.specs.declared.machine.Machine.{Machine}
use Rattle.nanocore.specs.Numbers.{run_number}
use Rattle.nanocore.specs.Run.{onward, run_of}
use Rattle.nanocore.specs.Step.{Situation, Answered, applied, halted_at, refused_at, step_of}
use Rattle.nanocore.proofs.RunLaws.{run_full, run_halted, stopped}
use Rattle.steps.specs.Trace.{completed}
use Rattle.steps.proofs.Outcome.{by_outcome}
use Rattle.steps.proofs.Trace.{fuel_never_decides, run_more, run_stops}
use Rattle.trace.specs.Look.{look_after, look_by, looking, look_number, look_of}

-- how many looks at most are still to complete a step
abbrev pub looks : Machine → ℕ
looks m = cond m.halted 0 (suc (m.limit - m.count))

-- what a look comes to
record Looked (input : List ℕ) (s : Situation) (r : Answered) : Type 0 where
  pub ends : (r.answer ≡ [] → ⊥) → r ≡ run_of input s
  pub on : r.answer ≡ [] → run_of input r.after ≡ run_of input s
  pub less : r.answer ≡ [] → looks r.after.machine < looks s.machine

module _ (input : List ℕ) (s : Situation) where
  ended : (r : Answered) → 1 ≤ number_of r.answer → r ≡ run_of input s → Looked input s r
  ended r some e =
      record {
        ends = λ _. e;
        on = λ none. absurd (omega (arith, ap number_of none));
        less = λ none. absurd (omega (arith, ap number_of none));
      }

  gone : (t : Situation) → run_of input t ≡ run_of input s → looks t.machine < looks s.machine → Looked input s record { answer = []; after = t }
  gone t same fewer = record { ends = λ some. absurd (some refl); on = λ _. same; less = λ _. fewer }

  -- the machine has a step to take
  module _ (h : s.machine.halted ≡ false) (b : s.machine.count < s.machine.limit) where
    abbrev left : ℕ
    left = s.machine.limit - s.machine.count

    stops : onward (step_of input s).answer ≡ false → step_of input s ≡ run_of input s
    stops o = sym (run_stops input left s h b o) ∙ fuel_never_decides input (suc left) s (omega arith)

    goes :
        (t : Situation) → step_of input s ≡ record { answer = 0 ∷ []; after = t } → t.machine.limit - t.machine.count ≤ left →
        run_of input t ≡ run_of input s
    goes t e fewer =
        sym (fuel_never_decides input left t fewer)
        ∙ sym (run_more input left s h b t e)
        ∙ fuel_never_decides input (suc left) s (omega arith)

    by_step : Looked input s (look_after (completed (step_of input s).answer) (step_of input s))
    by_step =
        by_outcome (λ r. step_of input s ≡ r → Looked input s (look_after (completed r.answer) r)) input s
        (λ number above e.
        rw (lt-leb (number_of number) 1 above)
        (ended (refused_at number s) (omega arith) (sym e ∙ stops (rw e (stopped (refused_at number s) (number_of number) refl (omega arith))))))
        (λ t e. gone (halted_at s) (run_halted _ input (halted_at s) refl ∙ sym e ∙ stops (rw e)) (rw h (omega arith)))
        (λ a t e. gone (applied a s) (goes (applied a s) e (omega arith)) (rw h (omega arith)))
        refl

  by_look :
      (halted full : Bool) → s.machine.halted ≡ halted → leb s.machine.limit s.machine.count ≡ full →
      Looked input s (look_by halted full (step_of input s) s)
  by_look true full h f = ended (refused_at (1 ∷ []) s) (omega arith) (sym (run_halted _ input s h))
  by_look false true h f = ended (refused_at (10 ∷ s.machine.limit ∷ []) s) (omega arith) (sym (run_full _ input s h (leb-true _ _ f)))
  by_look false false h f = by_step h (leb-false _ _ f)

  looked : Looked input s (look_of input s)
  unfolding look_of
  looked = by_look s.machine.halted (leb s.machine.limit s.machine.count) refl refl

-- where a look comes to r
module _ (input : List ℕ) (s : Situation) {r : Answered} (e : r ≡ look_of input s) where
  here : Looked input s r
  here = rw e (looked input s)

  pub look_ends : (r.answer ≡ [] → ⊥) → r ≡ run_of input s
  look_ends = here.ends

  pub look_on : r.answer ≡ [] → run_of input r.after ≡ run_of input s
  look_on = here.on

  pub look_less : r.answer ≡ [] → looks r.after.machine < looks s.machine
  look_less = here.less

-- a run's answer is never none
pub answered : (a : Result Unit RunRefusal) → run_number a ≡ [] → ⊥
answered (Ok halted) none = omega (arith, ap number_of none)
answered (Err (RunRefusal.Fault f)) none = omega (arith, fault_high f, ap number_of none)
answered (Err (LimitReached limit)) none = omega (arith, ap number_of none)

-- a look that ended tells the run's answer
pub look_told :
    (input : List ℕ) (s : Situation) (r : Outcome (Option (Result Unit RunRefusal))) (out : List ℕ) (a : Result Unit RunRefusal) → looking r out ≡ look_of input s → r.answer ≡ Some a →
    refused_at (run_number a) (looking r out).after ≡ run_of input s
look_told input s r out a e told =
    sym (ap (λ l. refused_at (look_number l) (looking r out).after) told)
    ∙ look_ends input s e (λ none. answered a (sym (ap look_number told) ∙ none))
