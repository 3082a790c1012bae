-- How the operations meet the stack: what sp and memory become, by what the step did. The forty are looked at here, once.
use mathlib.Core.Path.{◌≡◌, refl, ◌∙◌}
use mathlib.Core.Bool.{Bool, true, false}
use mathlib.Core.List.{List}
use mathlib.Core.Logic.{◌≢◌}
use Prim.Native.Nat.{ℕ, ◌+◌, ◌%◌}
use native.Mathlib.Omega.{arith}
use lib.Dec.{eqb}
use lib.ListN.{get_or, set}
use lib.Seq.{get_or-set_same}
use borrow.Author.Tests.{eqb-false, lt-leb}
use Rattle.std.specs.Prelude.{Option, Some, None}
use Rattle.byte.specs.Arithmetic.{wrapped_sub}
use Rattle.effect.specs.declared.moves.Core.{Core}
use Rattle.effect.specs.declared.Effect.{Effect}
use Rattle.effect.specs.Effects.{kept, loaded, flagged, jumped, pushed, Before, nothing, halts, fault, full, empty, done, halt, fate_by}
use Rattle.effect.specs.Numbers.{number_of}
use Rattle.op.specs.declared.operation.Op.{Op}
use Rattle.op.specs.Operations.{decoded, form_of}
use Rattle.op.proofs.Laws.{each, ◌&◌, agree}
use Rattle.instruction.specs.Decode.{decoding_of, decoded_of}
use Rattle.instruction.specs.Operands.{operands_of, first_of, second_of}
use Rattle.turn.specs.Meaning.{View, effect_of, before_of, fate_of}
use Rattle.turn.specs.Turn.{fate_at, turn_of}
use Rattle.turn.proofs.Laws.{done_effect}
use Rattle.nanocore.specs.declared.machine.Machine.{Machine}
use Rattle.nanocore.specs.Step.{Situation, view_of, applied, halted_at, step_of}
use Rattle.steps.proofs.Outcome.{by_outcome}
use Rattle.stack.specs.Event.{Event, put, took, stored, other, event_by, event_if, event_of}
use Rattle.stack.specs.Stack.{Sized}

-- sp and memory before and after: "PUSH writes at sp, then sp-1. POP raises sp, then reads."
pub data Met (sp : ℕ) (memory : List ℕ) : Event → ℕ → List ℕ → Type 0 where
  puts : (b : ℕ) → Met sp memory (put b) (wrapped_sub sp 1) (set memory sp b)
  takes : (b : ℕ) → b ≡ get_or memory ((sp + 1) % 256) 0 → Met sp memory (took b) ((sp + 1) % 256) memory
  stores : (a b : ℕ) → Met sp memory (stored a) sp (set memory a b)
  apart : Met sp memory other sp memory

abbrev MetBy : Machine → Machine → Event → Type 0
MetBy m n ev = Met m.sp m.memory ev n.sp n.memory

module _ (input : List ℕ) (s : Situation) (two three : ℕ) (sized : Sized s.machine) where
  -- an operation with the two bytes behind it, and the machine that its effect leaves
  abbrev OwnMet : Op → Type 0
  OwnMet o =
      let x = first_of (operands_of (form_of o) two three) in
      let y = second_of (operands_of (form_of o) two three) in
      let after = (applied (effect_of o x y (view_of input s)) s).machine in
      MetBy s.machine after (event_by o x y s.machine after)

  -- the register of a POP holds what was loaded: "a lone register is byte two modulo 16"
  in_register : (b : ℕ) → get_or (set s.machine.registers (two % 16) b) (two % 16) 0 ≡ b
  in_register b = get_or-set_same s.machine.registers (two % 16) b 0 (omega (arith, sized.registers))

  own_met : (o : Op) → OwnMet o
  unfolding kept loaded flagged jumped pushed
  own_met =
      each OwnMet
      (apart & apart & apart & apart & apart & apart & stores _ _ & puts _
      & takes _ (in_register _) & apart & apart & apart & apart & apart & apart & apart
      & apart & apart & apart & apart & apart & apart & apart & apart
      & apart & apart & apart & apart & apart & apart & apart & apart
      & puts _ & takes _ refl & apart & apart & apart & apart & puts _ & stores _ _ & tt)

-- where sp was not, since the step completed
abbrev pub Allowed : ℕ → Event → Type 0
Allowed sp (put b) = sp ≢ 0xea
Allowed sp (took b) = sp ≢ 0xff
Allowed sp (stored a) = Unit {0}
Allowed sp other = Unit {0}

-- what comes before the effect, by what the step did: a put asks for room, a take for an occupied stack
abbrev asked : Core → Event → Before → Before
asked c (put b) own = full c
asked c (took b) own = empty c
asked c (stored a) own = own
asked c other own = own

asked_own :
    (x y : ℕ) (v : View) (m n : Machine) (o : Op) → before_of o x y v ≡ asked v.core (event_by o x y m n) (before_of o x y v)
asked_own x y v m n = agree (λ o. before_of o x y v) (λ o. asked v.core (event_by o x y m n) (before_of o x y v)) refl

-- an instruction that completed did not meet its fault
passed : (test : Bool) (f : List ℕ) (own e : Effect) → fate_by (fault test f) own ≡ done e → test ≡ false
passed true f own e h = cc
passed false f own e h = refl

allowed : (c : Core) (ev : Event) (b : Before) (own e : Effect) → fate_by (asked c ev b) own ≡ done e → Allowed c.sp ev
allowed c (put x) b own e h = eqb-false _ _ (passed (eqb c.sp 0xea) _ own e h)
allowed c (took x) b own e h = eqb-false _ _ (passed (eqb c.sp 0xff) _ own e h)
allowed c (stored a) b own e h = tt
allowed c other b own e h = tt

-- an instruction that halts did nothing with the stack
abbrev spared : Before → Event → Event
spared nothing ev = ev
spared halts ev = other
spared (fault t f) ev = ev

spared_own : (x y : ℕ) (v : View) (m n : Machine) (o : Op) → event_by o x y m n ≡ spared (before_of o x y v) (event_by o x y m n)
spared_own x y v m n = agree (λ o. event_by o x y m n) (λ o. spared (before_of o x y v) (event_by o x y m n)) refl

halts_spared : (b : Before) (own : Effect) (ev : Event) → fate_by b own ≡ halt → spared b ev ≡ other
halts_spared nothing own ev h = cc
halts_spared halts own ev h = refl
halts_spared (fault true f) own ev h = cc
halts_spared (fault false f) own ev h = cc

-- the stack of the machine before and after, by what was done
abbrev pub Stacked : Machine → Machine → Event → Type 0
Stacked m n ev = Allowed m.sp ev × MetBy m n ev

module _ (input : List ℕ) (s : Situation) (sized : Sized s.machine) where
  -- by what the opcode stands for
  done_stacked :
      (l : Option Op) (one two three : ℕ) (e : Effect) → fate_at (decoding_of l one two three) (view_of input s) ≡ done e →
      Stacked s.machine (applied e s).machine (event_if true (decoding_of l one two three) s.machine (applied e s).machine)
  unfolding fate_of
  done_stacked (Some o) one two three e h =
      let x = first_of (operands_of (form_of o) two three) in
      let y = second_of (operands_of (form_of o) two three) in
      let own = effect_of o x y (view_of input s) in
      let before = before_of o x y (view_of input s) in
      let after = (applied own s).machine in
      let free = allowed (view_of input s).core (event_by o x y s.machine after) before own e (rw (← asked_own x y (view_of input s) s.machine after o) h) in
      rw (← done_effect before own e h) (free, own_met input s two three sized o)
  done_stacked None one two three e h = let z : ◌≡◌ {A = ℕ} 0 1 = cc in absurd (omega arith)

  halt_other :
      (l : Option Op) (one two three : ℕ) (n : Machine) → fate_at (decoding_of l one two three) (view_of input s) ≡ halt →
      event_if true (decoding_of l one two three) s.machine n ≡ other
  unfolding fate_of
  halt_other (Some o) one two three n h =
      let x = first_of (operands_of (form_of o) two three) in
      let y = second_of (operands_of (form_of o) two three) in
      spared_own x y (view_of input s) s.machine n o
      ∙ halts_spared (before_of o x y (view_of input s)) (effect_of o x y (view_of input s)) _ h
  halt_other None one two three n h = refl

  pub step_stacked : Stacked s.machine (step_of input s).after.machine (event_of s.machine (step_of input s))
  unfolding turn_of decoded_of
  step_stacked =
      let pc = s.machine.pc in
      let one = get_or s.machine.memory pc 0 in
      let two = get_or s.machine.memory ((pc + 1) % 256) 0 in
      let three = get_or s.machine.memory ((pc + 2) % 256) 0 in
      by_outcome (λ r. Stacked s.machine r.after.machine (event_of s.machine r)) input s
      (λ number above. rw (lt-leb (number_of number) 1 above) (tt, apart))
      (λ t. rw (halt_other (decoded one) one two three (halted_at s).machine t) (tt, apart))
      (λ e t. done_stacked (decoded one) one two three e t)
