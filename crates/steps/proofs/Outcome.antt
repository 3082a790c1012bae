-- What a step comes to, in one law: it is refused, with a number from 2 on, and all is as it was; or it halts; or its instruction has its effect.
-- What holds of the three holds of every step.
use mathlib.Core.Path.{◌≡◌, refl}
use mathlib.Core.Bool.{Bool, true, false}
use mathlib.Core.List.{List, [], ◌∷◌}
use Prim.Native.Nat.{ℕ, ◌≤◌}
use native.Mathlib.Omega.{arith}
use lib.Dec.{eqb}
use Rattle.effect.specs.declared.Effect.{Effect}
use Rattle.effect.specs.Effects.{Fate, done, halt, refused}
use Rattle.effect.specs.Numbers.{number_of}
use Rattle.turn.specs.Turn.{turn_of}
use Rattle.turn.proofs.Laws.{refused_number}
use Rattle.nanocore.specs.Machine.{most_count}
use Rattle.nanocore.specs.Step.{Situation, Answered, view_of, applied, halted_at, refused_at, counted, settled, unhalted, step_of}

module _
    (P : Answered → Type 0) (input : List ℕ) (s : Situation)
    (refuses : (number : List ℕ) → 2 ≤ number_of number → P (refused_at number s))
    (halts : turn_of (view_of input s) ≡ halt → P record { answer = 1 ∷ []; after = halted_at s })
    (goes : (e : Effect) → turn_of (view_of input s) ≡ done e → P record { answer = 0 ∷ []; after = applied e s }) where
  by_count : (b : Bool) (e : Effect) → turn_of (view_of input s) ≡ done e → P (counted b e s)
  by_count true e t = refuses (9 ∷ []) (omega arith)
  by_count false e t = goes e t

  by_fate : (f : Fate) → turn_of (view_of input s) ≡ f → P (settled f s)
  by_fate (refused number) t =
      let own = refused_number (view_of input s) number t in
      refuses number (omega arith)
  by_fate halt t = halts t
  by_fate (done e) t = by_count (eqb s.machine.count most_count) e t

  by_halted : (b : Bool) → P (unhalted b (turn_of (view_of input s)) s)
  by_halted true = refuses (2 ∷ []) (omega arith)
  by_halted false = by_fate (turn_of (view_of input s)) refl

  pub by_outcome : P (step_of input s)
  unfolding step_of
  by_outcome = by_halted s.machine.halted
