-- A step prints one byte at most, where the number written stands, and only where there is room; a run is steps.
use mathlib.Core.Path.{◌≡◌, refl, ◌∙◌}
use mathlib.Core.Bool.{true}
use mathlib.Core.List.{List}
use mathlib.Core.Logic.{◌⊎◌, inl, inr, ◌≢◌}
use Prim.Native.Nat.{ℕ, ◌+◌, ◌≤◌, ◌<◌}
use native.Mathlib.Omega.{arith}
use lib.ListN.{length, length-set}
use lib.Seq.{get_or-set_other}
use borrow.Author.Tests.{ltb-true}
use Rattle.effect.specs.declared.Write.{Write}
use Rattle.effect.specs.declared.Write.TheVariants.{Nothing, Register, Memory, Output}
use Rattle.effect.specs.Effects.{prints}
use Rattle.turn.proofs.Laws.{prints_room}
use Rattle.nanocore.specs.Run.{run_of}
use Rattle.nanocore.specs.Step.{Situation, view_of, output_after, written_after, step_of}
use Rattle.steps.specs.Output.{Printed, PrintedTo}
use Rattle.steps.proofs.Outcome.{by_outcome}
use Rattle.steps.proofs.Trace.{run_keeps}

same : (n : ℕ) (out : List ℕ) → Printed n out n out
same n out = record { more = omega arith; inside = λ h. h; size = refl; kept = λ i h. refl }

-- a place outside the whole stretch is outside either part of it
below : (a b c i : ℕ) → a ≤ b → (i < a) ⊎ (c ≤ i) → (i < b) ⊎ (c ≤ i)
below a b c i h (inl l) = inl (omega arith)
below a b c i h (inr g) = inr g

above : (a b c i : ℕ) → b ≤ c → (i < a) ⊎ (c ≤ i) → (i < a) ⊎ (b ≤ i)
above a b c i h (inl l) = inl l
above a b c i h (inr g) = inr (omega arith)

then : (a b c : ℕ) (l m n : List ℕ) → Printed a l b m → Printed b m c n → Printed a l c n
then a b c l m n p q =
    record {
      more = omega (arith, p.more, q.more);
      inside = λ h. q.inside (p.inside h);
      size = q.size ∙ p.size;
      kept = λ i h. q.kept i (below a b c i p.more h) ∙ p.kept i (above a b c i q.more h);
    }

elsewhere : (n i : ℕ) → (i < n) ⊎ (n + 1 ≤ i) → i ≢ n
elsewhere n i (inl l) e = omega arith
elsewhere n i (inr g) e = omega arith

by_write :
    (w : Write) (n : ℕ) (out : List ℕ) → (prints w ≡ true → n < length out) →
    Printed n out (written_after w n) (output_after w n out)
by_write Nothing n out room = same n out
by_write (Register r v) n out room = same n out
by_write (Memory a v) n out room = same n out
by_write (Output v) n out room =
    record {
      more = omega arith;
      inside = λ h. omega (arith, room refl, length-set out n v);
      size = length-set out n v;
      kept = λ i h. get_or-set_other out n i v 0 (elsewhere n i h);
    }

pub step_printed : (input : List ℕ) (s : Situation) → PrintedTo s (step_of input s).after
step_printed input s =
    by_outcome (λ r. PrintedTo s r.after) input s
    (λ number above. same s.written s.output)
    (λ t. same s.written s.output)
    (λ e t. by_write e.write s.written s.output (λ p. ltb-true _ _ (prints_room (view_of input s) e t p)))

-- whatever the run ended for
pub run_printed : (input : List ℕ) (s : Situation) → PrintedTo s (run_of input s).after
run_printed input s =
    run_keeps (PrintedTo s) input
    (λ t so.
    let u = (step_of input t).after in
    then s.written t.written u.written s.output t.output u.output so (step_printed input t))
    s (same s.written s.output)
