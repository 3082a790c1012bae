-- What a step leaves: a refused one everything, a completed one flags that the flag methods give.
use mathlib.Core.Path.{◌≡◌, refl}
use mathlib.Core.Bool.{Bool, true, false}
use mathlib.Core.List.{List, [], ◌∷◌}
use Prim.Native.Nat.{ℕ, ◌≤◌}
use native.Mathlib.Omega.{arith}
use lib.ListN.{get_or}
use Rattle.byte.specs.Flags.{C, set_flag, clear_flag, zn, with_carry}
use Rattle.effect.specs.Numbers.{number_of}
use Rattle.op.specs.Operations.{ops}
use Rattle.op.proofs.Laws.{past}
use Rattle.instruction.specs.Decode.{decoded_of}
use Rattle.turn.specs.Turn.{turn_of}
use Rattle.turn.proofs.Laws.{Moved, executed, flags_moved}
use Rattle.instruction.specs.Operands.{first_of, second_of}
use Rattle.nanocore.specs.declared.machine.Machine.{Machine}
use Rattle.nanocore.specs.Machine.{with_flags}
use Rattle.nanocore.specs.Step.{Situation, view_of, refused_at, step_of}
use Rattle.steps.proofs.Outcome.{by_outcome}

-- "Refusals 2 to 9 leave machine, places and output as found"
pub refused_same : (input : List ℕ) (s : Situation) → 2 ≤ number_of (step_of input s).answer → (step_of input s).after ≡ s
refused_same input s =
    by_outcome (λ r. 2 ≤ number_of r.answer → r.after ≡ s) input s
    (λ number above h. refl)
    (λ t h. absurd (omega arith))
    (λ e t h. absurd (omega arith))

-- a byte that is none of the forty is never run as something else: the step gives it back with its address, and changes nothing
pub unknown_refused :
    (input : List ℕ) (s : Situation) → s.machine.halted ≡ false → 40 ≤ get_or s.machine.memory s.machine.pc 0 →
    step_of input s ≡ refused_at (3 ∷ get_or s.machine.memory s.machine.pc 0 ∷ s.machine.pc ∷ []) s
unfolding step_of turn_of decoded_of
unknown_refused input s awake h = rw (awake, ← past ops (get_or s.machine.memory s.machine.pc 0) h)

-- which flags a step moves
pub step_moved : (input : List ℕ) (s : Situation) → Moved s.machine.flags (step_of input s).after.machine.flags
step_moved input s =
    by_outcome (λ r. Moved s.machine.flags r.after.machine.flags) input s (λ number above. Moved.none) (λ t. Moved.none)
    (λ e t.
    let own = executed (view_of input s) e t in
    rw (← own.effect) (flags_moved (first_of own.operands) (second_of own.operands) (view_of input s) own.op))

-- The flags that the methods give: none moved; update_zn_flags by a byte; then set_flag or clear_flag at C.
abbrev zned : Machine → ℕ → Machine
zned m result = with_flags m (zn m.flags result)

abbrev carried : Machine → Bool → Machine
carried m true = with_flags m (set_flag m.flags C)
carried m false = with_flags m (clear_flag m.flags C)

pub data FlagsBy (m : Machine) : ℕ → Type 0 where
  none : FlagsBy m m.flags
  ZN : (result : ℕ) → FlagsBy m (zned m result).flags
  ZNC : (result : ℕ) (carry : Bool) → FlagsBy m (carried (zned m result) carry).flags

by_carry : (m : Machine) (result : ℕ) (carry : Bool) → FlagsBy m (with_carry (zn m.flags result) carry)
unfolding with_carry
by_carry m result true = ZNC result true
by_carry m result false = ZNC result false

by_method : (m : Machine) (flags : ℕ) → Moved m.flags flags → FlagsBy m flags
by_method m flags Moved.none = none
by_method m flags (Moved.ZN result) = ZN result
by_method m flags (Moved.ZNC result carry) = by_carry m result carry

-- a step leaves flags that the methods give
pub step_flags : (input : List ℕ) (s : Situation) → FlagsBy s.machine (step_of input s).after.machine.flags
step_flags input s = by_method s.machine (step_of input s).after.machine.flags (step_moved input s)
