-- Every run is stepping until it ends, and fuel never decides: by recursion on the fuel, with what one step comes to.
use mathlib.Core.Path.{◌≡◌, refl, sym, ◌∙◌, ap}
use mathlib.Core.Bool.{Bool, true, false}
use mathlib.Core.List.{List, [], ◌∷◌}
use Prim.Native.Nat.{ℕ, zero, suc, ◌-◌, ◌≤◌, ◌<◌}
use native.Mathlib.Nat.{not-suc-le-zero, le_of_suc-le-suc, suc_inj}
use native.Mathlib.Omega.{arith}
use lib.Dec.{leb}
use borrow.Author.Tests.{leb-true, leb-false, lt-leb}
use Rattle.effect.specs.Numbers.{number_of}
use Rattle.turn.specs.Turn.{turn_of}
use Rattle.nanocore.specs.Machine.{most_count}
use Rattle.nanocore.specs.Run.{onward, then, run_by, run_of}
use Rattle.nanocore.specs.Step.{Situation, Answered, view_of, applied, settled, step_of}
use Rattle.steps.specs.Trace.{after_steps, Ended, Ran}
use Rattle.nanocore.proofs.RunLaws.{Kept, Went, goes, stops, went, look, stopped, step_awake, run_halted, run_full}

-- How a machine stands before a look: halted, at its limit, or with a step to take, which goes on or stops.
data Stands (input : List ℕ) (s : Situation) : Type 0 where
  done : s.machine.halted ≡ true → Stands input s
  full : s.machine.halted ≡ false → s.machine.limit ≤ s.machine.count → Stands input s
  more :
      s.machine.halted ≡ false → s.machine.count < s.machine.limit → (t : Situation) →
      step_of input s ≡ record { answer = 0 ∷ []; after = t } → t.machine.halted ≡ false →
      t.machine.count ≡ suc s.machine.count → t.machine.limit ≡ s.machine.limit → Stands input s
  last :
      s.machine.halted ≡ false → s.machine.count < s.machine.limit → onward (step_of input s).answer ≡ false →
      Kept s (step_of input s).after → Stands input s

module _ (input : List ℕ) (s : Situation) where
  by_step : s.machine.halted ≡ false → s.machine.count < s.machine.limit → Went input s → Stands input s
  by_step h b (goes e d t) = more h b (applied e s) (step_awake input s h ∙ t) h (omega arith) refl
  by_step h b (stops n t some two nine kept) =
      last h b (rw (step_awake input s h) (stopped (settled (turn_of (view_of input s)) s) n t some)) (rw (step_awake input s h) kept)

  by_limit : (b : Bool) → s.machine.halted ≡ false → leb s.machine.limit s.machine.count ≡ b → Stands input s
  by_limit true h e = full h (leb-true _ _ e)
  by_limit false h e = by_step h (leb-false _ _ e) (went input s)

  by_halted : (b : Bool) → s.machine.halted ≡ b → Stands input s
  by_halted true h = done h
  by_halted false h = by_limit (leb s.machine.limit s.machine.count) h refl

  stands : Stands input s
  stands = by_halted s.machine.halted refl

-- a run that ends where it stands
here :
    (input : List ℕ) (s : Situation) (r : Answered) → Ended input s r → Kept s r.after → Ran input s r
here input s r e kept =
    record {
      steps = 0;
      awake = λ i h. absurd (not-suc-le-zero h);
      below = λ i h. absurd (not-suc-le-zero h);
      stepped = λ i h. absurd (not-suc-le-zero h);
      ended = e;
      counted = omega arith;
      limit_kept = kept.limit;
      within = omega arith;
    }

-- what holds of a situation, and of each that follows its step, holds from there on
from :
    (P : Situation → Type 0) (input : List ℕ) (s t : Situation) (n : ℕ) → (step_of input s).after ≡ t → P s →
    ((i : ℕ) → i < n → P (after_steps i input t)) → (i : ℕ) → i < suc n → P (after_steps i input s)
from P input s t n e first rest zero h = first
from P input s t n e first rest (suc i) h = rw e (rest i (le_of_suc-le-suc h))

-- a run that takes one step more
onto :
    (input : List ℕ) (s t : Situation) (r : Answered) → s.machine.halted ≡ false → s.machine.count < s.machine.limit →
    step_of input s ≡ record { answer = 0 ∷ []; after = t } → t.machine.count ≡ suc s.machine.count →
    t.machine.limit ≡ s.machine.limit → Ran input t r → Ran input s r
onto input s t r h b e count limit rest =
    let after : (step_of input s).after ≡ t = ap (λ x. x.after) e in
    record {
      steps = suc rest.steps;
      awake = from (λ u. u.machine.halted ≡ false) input s t rest.steps after h rest.awake;
      below = from (λ u. u.machine.count < u.machine.limit) input s t rest.steps after b rest.below;
      stepped = from (λ u. (step_of input u).answer ≡ 0 ∷ []) input s t rest.steps after (ap (λ x. x.answer) e) rest.stepped;
      ended = rw e rest.ended;
      counted = omega arith;
      limit_kept = rest.limit_kept ∙ limit;
      within = λ w. let rest-within = rest.within (omega arith) in omega arith;
    }

-- a look that finds a step to take
module _ (input : List ℕ) (k : ℕ) (s : Situation) (h : s.machine.halted ≡ false) (b : s.machine.count < s.machine.limit) where
  taken : run_by (suc k) input s ≡ then (onward (step_of input s).answer) (step_of input s) (run_by k input)
  unfolding run_by
  taken = look _ _ (step_of input s) (run_by k input) s h (lt-leb s.machine.limit s.machine.count b)

  pub run_more : (t : Situation) → step_of input s ≡ record { answer = 0 ∷ []; after = t } → run_by (suc k) input s ≡ run_by k input t
  run_more t e = taken ∙ rw e

  pub run_stops : onward (step_of input s).answer ≡ false → run_by (suc k) input s ≡ step_of input s
  run_stops o = taken ∙ rw o

-- what is known of the runs with one less of fuel, where there is one
abbrev Later : (ℕ → Situation → Type 0) → ℕ → Type 0
Later P k = (j : ℕ) → suc j ≡ k → (t : Situation) → t.machine.limit - t.machine.count ≤ j → P j t

-- with fuel enough, every run is stepping until it ends
ran_look :
    (input : List ℕ) (k : ℕ) (s : Situation) → s.machine.limit - s.machine.count ≤ k →
    Later (λ j t. Ran input t (run_by j input t)) k → Stands input s → Ran input s (run_by k input s)
ran_look input k s f rest (done h) =
    rw (run_halted k input s h) (here input s _ (Ended.halted h) record { count = refl; limit = refl })
ran_look input k s f rest (full h b) =
    rw (run_full k input s h b) (here input s _ (Ended.limit h b) record { count = refl; limit = refl })
ran_look input zero s f rest (more h b t e th tc tl) = absurd (omega arith)
ran_look input (suc k) s f rest (more h b t e th tc tl) =
    rw (run_more input k s h b t e) (onto input s t _ h b e tc tl (rest k refl t (omega arith)))
ran_look input zero s f rest (last h b o kept) = absurd (omega arith)
ran_look input (suc k) s f rest (last h b o kept) =
    rw (run_stops input k s h b o) (here input s _ (Ended.step h b o) kept)

-- what follows at a fuel from all that is known with one less holds at every fuel that is enough
by_fuel :
    (P : ℕ → Situation → Type 0) →
    ((k : ℕ) (s : Situation) → s.machine.limit - s.machine.count ≤ k → Later P k → P k s) → (k : ℕ) (s : Situation) →
    s.machine.limit - s.machine.count ≤ k → P k s
by_fuel P look zero s f = look 0 s f (λ j z. absurd (omega arith))
by_fuel P look (suc k) s f =
    look (suc k) s f (λ j z t g. rw (suc_inj z) (by_fuel P look k t (rw (← suc_inj z) g)))

pub ran : (input : List ℕ) (s : Situation) → Ran input s (run_of input s)
ran input s =
    by_fuel (λ k t. Ran input t (run_by k input t)) (λ k t f rest. ran_look input k t f rest (stands input t))
    (s.machine.limit - s.machine.count) s (omega arith)

-- two fuels that are enough give one run
abbrev SameRun : List ℕ → ℕ → Situation → Type 0
SameRun input k s = (l : ℕ) → s.machine.limit - s.machine.count ≤ l → run_by k input s ≡ run_by l input s

same_look :
    (input : List ℕ) (k : ℕ) (s : Situation) → s.machine.limit - s.machine.count ≤ k → Later (SameRun input) k →
    Stands input s → SameRun input k s
same_look input k s f rest (done h) l g = run_halted k input s h ∙ sym (run_halted l input s h)
same_look input k s f rest (full h b) l g = run_full k input s h b ∙ sym (run_full l input s h b)
same_look input zero s f rest (more h b t e th tc tl) l g = absurd (omega arith)
same_look input (suc k) s f rest (more h b t e th tc tl) zero g = absurd (omega arith)
same_look input (suc k) s f rest (more h b t e th tc tl) (suc l) g =
    run_more input k s h b t e ∙ rest k refl t (omega arith) l (omega arith) ∙ sym (run_more input l s h b t e)
same_look input zero s f rest (last h b o kept) l g = absurd (omega arith)
same_look input (suc k) s f rest (last h b o kept) zero g = absurd (omega arith)
same_look input (suc k) s f rest (last h b o kept) (suc l) g =
    run_stops input k s h b o ∙ sym (run_stops input l s h b o)

pub fuel_never_decides :
    (input : List ℕ) (k : ℕ) (s : Situation) → s.machine.limit - s.machine.count ≤ k → run_by k input s ≡ run_of input s
fuel_never_decides input k s f =
    by_fuel (SameRun input) (λ k t f rest. same_look input k t f rest (stands input t)) k s f
    (s.machine.limit - s.machine.count) (omega arith)

-- "A run never gives 0, 2 or 9"
abbrev pub Plain : ℕ → Type 0
Plain n = (n ≡ 0 → ⊥) × (n ≡ 2 → ⊥) × (n ≡ 9 → ⊥)

plain_step :
    (input : List ℕ) (s : Situation) → s.machine.halted ≡ false → s.machine.count < s.machine.limit →
    (step_of input s).after.machine.limit ≤ most_count → onward (step_of input s).answer ≡ false → Went input s →
    Plain (number_of (step_of input s).answer)
plain_step input s h b l o (goes e d t) =
    let on : onward (step_of input s).answer ≡ true = rw (step_awake input s h ∙ t) in
    let z : true ≡ false = sym on ∙ o in
    let no : ◌≡◌ {A = ℕ} 0 1 = cc in
    omega arith
plain_step input s h b l o (stops n t some two nine kept) =
    let same = step_awake input s h in
    let number : number_of (step_of input s).answer ≡ n = ap (λ r. number_of r.answer) same ∙ t in
    let limit : (step_of input s).after.machine.limit ≡ s.machine.limit = ap (λ r. r.after.machine.limit) same ∙ kept.limit in
    (omega arith, λ z. two (sym number ∙ z), λ z. let full = nine (sym number ∙ z) in omega arith)

plain_end : (input : List ℕ) (s : Situation) (r : Answered) → r.after.machine.limit ≤ most_count → Ended input s r → Plain (number_of r.answer)
plain_end input s r l (Ended.halted h) = omega arith
plain_end input s r l (Ended.limit h b) = omega arith
plain_end input s r l (Ended.step h b o) = plain_step input s h b l o (went input s)

pub run_plain : (input : List ℕ) (s : Situation) → s.machine.limit ≤ most_count → Plain (number_of (run_of input s).answer)
run_plain input s l =
    let r = ran input s in
    plain_end input (after_steps r.steps input s) (run_of input s) (rw r.limit_kept l) r.ended

-- n steps and one more are n + 1
pub one_more : (n : ℕ) (input : List ℕ) (s : Situation) → after_steps (suc n) input s ≡ (step_of input (after_steps n input s)).after
one_more zero input s = refl
one_more (suc n) input s = one_more n input (step_of input s).after

-- what a step keeps, so many steps keep, and a run, whatever it ended for
module _ (P : Situation → Type 0) (input : List ℕ) (keeps : (s : Situation) → P s → P (step_of input s).after) where
  pub steps_keep : (n : ℕ) (s : Situation) → P s → P (after_steps n input s)
  steps_keep zero s h = h
  steps_keep (suc n) s h = steps_keep n (step_of input s).after (keeps s h)

  end_keeps : (s : Situation) (r : Answered) → Ended input s r → P s → P r.after
  end_keeps s r (Ended.halted e) h = h
  end_keeps s r (Ended.limit e b) h = h
  end_keeps s r (Ended.step e b o) h = keeps s h

  pub run_keeps : (s : Situation) → P s → P (run_of input s).after
  run_keeps s h =
      let r = ran input s in
      end_keeps (after_steps r.steps input s) (run_of input s) r.ended (steps_keep r.steps s h)
