-- Step and run are so many turns: one, and those up to the limit. At the largest count a step is told by one turn from count 0.
use Rattle.std.specs.Prelude.{◌≡◌, ℕ, zero, suc, ◌+◌, ◌-◌, ◌<◌, ◌≤◌, Bool, true, false, eqb, ltb, List, [], ◌∷◌, length, Result, Ok, Err}
use mathlib.Core.Path.{refl, sym, ◌∙◌, ap, subst}
use native.Mathlib.Omega.{arith}
use borrow.Author.Tests.{eq-eqb, eqb-true, le-leb, lt-leb}
use Rattle.effect.specs.declared.Effect.{Effect}
use Rattle.effect.specs.Effects.{Fate, done, halt, refused}
use Rattle.turn.specs.Turn.{turn_of}
use Rattle.effect.specs.Numbers.{number_of}
use Rattle.turn.proofs.Laws.{refused_number}
use Rattle.nanocore.specs.declared.answer.Completed.{Completed}
use Rattle.nanocore.specs.declared.answer.Completed.TheVariants.{Stepped, Halted}
use Rattle.nanocore.specs.declared.answer.Outcome.{Outcome}
use Rattle.nanocore.specs.declared.answer.StepRefusal.{StepRefusal}
use Rattle.nanocore.specs.declared.answer.StepRefusal.TheVariants.{AlreadyHalted, CountFull}
use Rattle.nanocore.specs.declared.machine.Machine.{Machine}
use Rattle.nanocore.specs.Machine.{most_count}
use Rattle.nanocore.specs.Numbers.{step_number, run_number, stepping}
use Rattle.nanocore.specs.Run.{onward, then, looked, run_by, run_of}
use Rattle.nanocore.specs.Step.{Situation, Answered, view_of, applied, refused_at, settled, situated, step_of}
use Rattle.nanocore.specs.Turns.{as_run, awake, counting, turns_of}
use Rattle.nanocore.proofs.TurnLaws.{fault_stops, onward_stop}

-- a machine that is not halted is itself, awake
pub awake_same : (m : Machine) → m.halted ≡ false → awake m ≡ m
awake_same m h = rw (← h)

pub step_awake : (input : List ℕ) (s : Situation) → s.machine.halted ≡ false → step_of input s ≡ settled (turn_of (view_of input s)) s
unfolding step_of
step_awake input s h = rw h

-- an answer that goes on is 0 alone
onward_zero : (l : List ℕ) → onward l ≡ true → l ≡ 0 ∷ []
onward_zero [] h = cc
onward_zero (n ∷ []) h = ap (λ n. n ∷ []) (eqb-true n 0 h)
onward_zero (n ∷ v ∷ vs) h = cc

-- one turn, and then none, is the turn
one_turn : (input : List ℕ) (r : Answered) (b : Bool) → onward r.answer ≡ b → then b r (turns_of 0 input) ≡ r
unfolding turns_of
one_turn input r true h = rw (← onward_zero r.answer h)
one_turn input r false h = refl

pub turns_one : (input : List ℕ) (s : Situation) → s.machine.halted ≡ false → turns_of 1 input s ≡ step_of input s
unfolding turns_of
turns_one input s h =
    let r = settled (turn_of (view_of input s)) s in
    one_turn input r (onward r.answer) refl ∙ sym (step_awake input s h)

-- count and limit as they were
pub record Kept (s t : Situation) : Type 0 where
  pub count : t.machine.count ≡ s.machine.count
  pub limit : t.machine.limit ≡ s.machine.limit

-- What a step of a machine that is not halted comes to: it goes on by an effect, or it stops with a number that is neither 0 nor 2, and is 9 only at
-- the largest count; count and limit are then as they were.
pub data Went (input : List ℕ) (s : Situation) : Type 0 where
  goes :
      (e : Effect) → turn_of (view_of input s) ≡ done e →
      settled (turn_of (view_of input s)) s ≡ record { answer = 0 ∷ []; after = applied e s } → Went input s
  stops :
      (n : ℕ) → number_of (settled (turn_of (view_of input s)) s).answer ≡ n → 1 ≤ n → (n ≡ 2 → ⊥) →
      (n ≡ 9 → s.machine.count ≡ most_count) → Kept s (settled (turn_of (view_of input s)) s).after → Went input s

module _ (input : List ℕ) (s : Situation) where
  by_count : (e : Effect) (b : Bool) → turn_of (view_of input s) ≡ done e → eqb s.machine.count most_count ≡ b → Went input s
  by_count e true t h = stops 9 (rw (t, h)) (omega arith) (omega arith) (λ _. eqb-true _ _ h) (rw (t, h) record { count = refl; limit = refl })
  by_count e false t h = goes e t (rw (t, h))

  by_fate : (f : Fate) → turn_of (view_of input s) ≡ f → Went input s
  by_fate (refused n) t =
      let own = refused_number (view_of input s) n t in
      stops (number_of n) (rw t) (omega arith) (omega arith) (λ z. absurd (omega arith)) (rw t record { count = refl; limit = refl })
  by_fate halt t = stops 1 (rw t) (omega arith) (omega arith) (λ z. absurd (omega arith)) (rw t record { count = refl; limit = refl })
  by_fate (done e) t = by_count e (eqb s.machine.count most_count) t refl

  pub went : Went input s
  went = by_fate (turn_of (view_of input s)) refl

-- the turns up to the limit, where the last answered 0
abbrev pub limited : ℕ → Answered → Answered
limited limit r = then (onward r.answer) r (refused_at (10 ∷ limit ∷ []))

-- neither halted nor at the limit: the step, and what comes after it
pub look :
    (halted full : Bool) (r : Answered) (rest : Situation → Answered) (s : Situation) → halted ≡ false → full ≡ false →
    looked halted full r rest s ≡ then (onward r.answer) r rest
look halted full r rest s h f = rw (h, f)

-- a turn that stops is the answer, whatever would come after it
pub stopped :
    (r : Answered) (n : ℕ) → number_of r.answer ≡ n → 1 ≤ n → onward r.answer ≡ false
stopped r n t some = onward_stop r.answer (rw t some)

pub run_turns :
    (input : List ℕ) (k : ℕ) (s : Situation) → s.machine.halted ≡ false → s.machine.count + k ≡ s.machine.limit →
    run_by k input s ≡ limited s.machine.limit (turns_of k input s)
unfolding run_by turns_of
run_turns input zero s h e = rw (h, le-leb s.machine.limit s.machine.count (omega arith))
run_turns input (suc k) s h e =
    look _ _ (step_of input s) (run_by k input) s h (lt-leb s.machine.limit s.machine.count (omega arith))
    ∙ rw (step_awake input s h) (by (went input s) (run_turns input k))
  where
    r : Answered
    r = settled (turn_of (view_of input s)) s

    by :
        Went input s →
        ((t : Situation) → t.machine.halted ≡ false → t.machine.count + k ≡ t.machine.limit →
        run_by k input t ≡ limited t.machine.limit (turns_of k input t)) →
        then (onward r.answer) r (run_by k input)
        ≡ limited s.machine.limit (then (onward r.answer) r (turns_of k input))
    by (goes a d t) rest = rw t (rest (applied a s) h (omega arith))
    by (stops n t some two nine kept) rest = rw (stopped r n t some, stopped r n t some)

-- up to the largest count no turn answers 2 or 9
pub turns_plain :
    (input : List ℕ) (k : ℕ) (s : Situation) → s.machine.count + k ≤ most_count →
    (number_of (turns_of k input s).answer ≡ 2 → ⊥) × (number_of (turns_of k input s).answer ≡ 9 → ⊥)
unfolding turns_of
turns_plain input zero s e = omega arith
turns_plain input (suc k) s e = by (went input s) (turns_plain input k)
  where
    r : Answered
    r = settled (turn_of (view_of input s)) s

    by :
        Went input s →
        ((t : Situation) → t.machine.count + k ≤ most_count →
        (number_of (turns_of k input t).answer ≡ 2 → ⊥) × (number_of (turns_of k input t).answer ≡ 9 → ⊥)) →
        (number_of (then (onward r.answer) r (turns_of k input)).answer ≡ 2 → ⊥)
        × (number_of (then (onward r.answer) r (turns_of k input)).answer ≡ 9 → ⊥)
    by (goes a d t) rest = rw t (rest (applied a s) (omega arith))
    by (stops n t some two nine kept) rest =
        rw (stopped r n t some) (λ z. two (sym t ∙ z), λ z. let full = nine (sym t ∙ z) in omega arith)

-- what the code makes of the last turn's answer is what the definition does
pub as_run_lem :
    (a : Result Completed StepRefusal) (limit : ℕ) (s : Situation) → (number_of (step_number a) ≡ 2 → ⊥) → (number_of (step_number a) ≡ 9 → ⊥) →
    refused_at (run_number (as_run a limit)) s ≡ limited limit (refused_at (step_number a) s)
as_run_lem (Ok Stepped) limit s two nine = refl
as_run_lem (Ok Halted) limit s two nine = refl
as_run_lem (Err AlreadyHalted) limit s two nine = absurd (two refl)
as_run_lem (Err (StepRefusal.Fault f)) limit s two nine = rw (fault_stops f)
as_run_lem (Err CountFull) limit s two nine = absurd (nine refl)

-- a look at a halted machine, and at one that is at its limit
looked_halted :
    (halted full : Bool) (r : Answered) (rest : Situation → Answered) (s : Situation) → halted ≡ true →
    looked halted full r rest s ≡ refused_at (1 ∷ []) s
looked_halted halted full r rest s h = rw h

looked_full :
    (halted full : Bool) (r : Answered) (rest : Situation → Answered) (s : Situation) → halted ≡ false → full ≡ true →
    looked halted full r rest s ≡ refused_at (10 ∷ s.machine.limit ∷ []) s
looked_full halted full r rest s h f = rw (h, f)

pub run_halted : (k : ℕ) (input : List ℕ) (s : Situation) → s.machine.halted ≡ true → run_by k input s ≡ refused_at (1 ∷ []) s
unfolding run_by
run_halted zero input s h = looked_halted _ _ _ _ s h
run_halted (suc k) input s h = looked_halted _ _ _ _ s h

pub run_full :
    (k : ℕ) (input : List ℕ) (s : Situation) → s.machine.halted ≡ false → s.machine.limit ≤ s.machine.count →
    run_by k input s ≡ refused_at (10 ∷ s.machine.limit ∷ []) s
unfolding run_by
run_full zero input s h e = looked_full _ _ _ _ s h (le-leb s.machine.limit s.machine.count e)
run_full (suc k) input s h e = looked_full _ _ _ _ s h (le-leb s.machine.limit s.machine.count e)

-- what a caller of the turns has is the step, and the run
module _ (input : List ℕ) (m : Machine) (place : ℕ) (output : List ℕ) (written : ℕ) (h : m.halted ≡ false) where
  pub step_turns :
      turns_of 1 input (situated (awake m) place output written) ≡ step_of input (situated m place output written)
  step_turns = rw (awake_same m h) (turns_one input (situated m place output written) h)

  -- At the largest count a step is told by one turn from count 0, with room where the step has room: 9 where the count rose, else the turn's answer.
  module _ (full : m.count ≡ most_count) (scratch : List ℕ) (used : ℕ) (room : ltb used (length scratch) ≡ ltb written (length output))
      (tried : Outcome (Result Completed StepRefusal)) (out : List ℕ) (e : stepping tried out ≡ turns_of 1 input (situated (counting false 0 m) place scratch used)) where
    abbrev s : Situation
    s = situated m place output written

    abbrev t : Situation
    t = situated (counting false 0 m) place scratch used

    came : stepping tried out ≡ settled (turn_of (view_of input s)) t
    came =
        let alike : view_of input t ≡ view_of input s = rw room in
        e ∙ turns_one input t refl ∙ step_awake input t refl ∙ ap (λ v. settled (turn_of v) t) alike

    rose : (f : Fate) → 0 < (settled f t).after.machine.count → refused_at (9 ∷ []) s ≡ settled f s
    rose (refused n) b = absurd (omega arith)
    rose halt b = absurd (omega arith)
    rose (done a) b = rw (eq-eqb _ _ full)

    -- the turn's answer, and halted as it left it; all else as found
    abbrev told : Answered → Answered
    told r = refused_at r.answer (situated (counting r.after.machine.halted m.count m) place output written)

    stayed : (f : Fate) → (settled f t).after.machine.count ≤ 0 → told (settled f t) ≡ settled f s
    stayed (refused n) b = rw (awake_same m h)
    stayed halt b = refl
    stayed (done a) b = absurd (omega arith)

    pub step_rose : 0 < tried.machine.count → refused_at (9 ∷ []) s ≡ step_of input s
    step_rose b =
        rose (turn_of (view_of input s)) (subst (λ r. 0 < r.after.machine.count) came b) ∙ sym (step_awake input s h)

    pub step_stayed : tried.machine.count ≤ 0 → told (stepping tried out) ≡ step_of input s
    step_stayed b =
        ap told came
        ∙ stayed (turn_of (view_of input s)) (subst (λ r. r.after.machine.count ≤ 0) came b)
        ∙ sym (step_awake input s h)

  pub run_last :
      (last : Outcome (Result Completed StepRefusal)) (out : List ℕ) → m.count < m.limit → m.limit ≤ most_count →
      stepping last out ≡ turns_of (m.limit - m.count) input (situated (awake m) place output written) →
      refused_at (run_number (as_run last.answer m.limit)) (situated last.machine last.place out last.written)
      ≡ run_of input (situated m place output written)
  run_last last out below most e =
      let s = situated m place output written in
      let k = m.limit - m.count in
      let turned : stepping last out ≡ turns_of k input s = rw (← awake_same m h) e in
      let number : number_of (step_number last.answer) ≡ number_of (turns_of k input s).answer = ap (λ r. number_of r.answer) turned in
      let plain = turns_plain input k s (omega arith) in
      as_run_lem last.answer m.limit _ (λ z. plain.0 (sym number ∙ z)) (λ z. plain.1 (sym number ∙ z))
      ∙ ap (limited m.limit) turned
      ∙ sym (run_turns input k s h (omega arith))
