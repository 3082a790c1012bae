-- "No instruction touches Y or bits 4..7": no step does, and no run. Y and those bits are the flags byte without its three lowest bits.
use mathlib.Core.Path.{◌≡◌, refl, ◌∙◌}
use mathlib.Core.List.{List}
use Prim.Native.Nat.{ℕ, ◌/◌, ◌<◌}
use native.Mathlib.Omega.{arith}
use Rattle.byte.specs.Flags.{zn}
use Rattle.byte.proofs.FlagLaws.{zn_high, carry_high}
use Rattle.turn.proofs.Laws.{Moved}
use Rattle.nanocore.specs.Run.{run_of}
use Rattle.nanocore.specs.Step.{Situation, step_of}
use Rattle.steps.proofs.StepLaws.{step_moved}
use Rattle.steps.proofs.Trace.{run_keeps}

moved_high : (flags after : ℕ) → flags < 256 → Moved flags after → after / 8 ≡ flags / 8
moved_high flags after h Moved.none = refl
moved_high flags after h (Moved.ZN result) = zn_high flags result h
moved_high flags after h (Moved.ZNC result carry) =
    let high = zn_high flags result h in
    let byte : zn flags result < 256 = omega (arith, high) in
    carry_high (zn flags result) carry byte ∙ high

abbrev pub HighKept : Situation → Situation → Type 0
HighKept s t = t.machine.flags / 8 ≡ s.machine.flags / 8

pub step_high : (input : List ℕ) (s : Situation) → s.machine.flags < 256 → HighKept s (step_of input s).after
step_high input s h = moved_high s.machine.flags (step_of input s).after.machine.flags h (step_moved input s)

pub run_high : (input : List ℕ) (s : Situation) → s.machine.flags < 256 → HighKept s (run_of input s).after
run_high input s h = run_keeps (HighKept s) input (λ t so. step_high input t (omega (arith, so)) ∙ so) s refl
