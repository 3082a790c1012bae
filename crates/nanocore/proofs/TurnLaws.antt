-- What so many turns come to, by what the first of them comes to.
use Rattle.std.specs.Prelude.{◌≡◌, ℕ, zero, suc, ◌-◌, ◌<◌, ◌≤◌, false, List, [], ◌∷◌, Result, Ok, Err, length}
use mathlib.Core.Path.{refl, sym, ◌∙◌, ap}
use native.Mathlib.Nat.{not-suc-le-zero}
use native.Mathlib.Numerals.{sub-one}
use native.Mathlib.Omega.{arith}
use borrow.Author.Tests.{ne_eqb}
use lib.ListN.{length-set}
use Rattle.effect.specs.declared.Effect.{Effect}
use Rattle.effect.specs.declared.Fault.{Fault}
use Rattle.effect.specs.declared.Turn.{Turn}
use Rattle.effect.specs.declared.Turn.TheVariants.{Done, Halt}
use Rattle.effect.specs.declared.Write.{Write}
use Rattle.effect.specs.declared.Write.TheVariants.{Nothing, Register, Memory, Output}
use Rattle.effect.specs.Numbers.{number_of, fate, fault_number}
use Rattle.effect.proofs.Laws.{fault_high}
use Rattle.turn.specs.Turn.{turn_of}
use Rattle.nanocore.specs.Machine.{most_count}
use Rattle.nanocore.specs.Step.{Situation, Answered, view_of, registers_after, applied, halted_at, refused_at, settled}
use Rattle.nanocore.specs.Run.{onward, then}
use Rattle.nanocore.specs.Turns.{turns_of}

-- an answer whose number is not 0 is the last
pub onward_stop : (l : List ℕ) → 1 ≤ number_of l → onward l ≡ false
onward_stop [] h = absurd (not-suc-le-zero h)
onward_stop (n ∷ []) h = ne_eqb n 0 (omega arith)
onward_stop (n ∷ v ∷ vs) h = refl

-- no fault is answered 0
pub fault_stops : (f : Fault) → onward (fault_number f) ≡ false
fault_stops f = onward_stop (fault_number f) (omega (arith, fault_high f))

module _ (input : List ℕ) (s : Situation) where
  -- the first of k turns
  pub first : (k : ℕ) → 0 < k →
      turns_of k input s
      ≡ (let r = settled (turn_of (view_of input s)) s in then (onward r.answer) r (turns_of (k - 1) input))
  unfolding turns_of
  first zero h = absurd (not-suc-le-zero h)
  first (suc k) h = rw sub-one

  pub turns_none : (k : ℕ) → k ≤ 0 → turns_of k input s ≡ record { answer = 0 ∷ []; after = s }
  unfolding turns_of
  turns_none zero h = refl
  turns_none (suc k) h = absurd (not-suc-le-zero h)

-- From here the turns that are left come to t, and the next of them is r: what r tells is what t is.
module _ (input : List ℕ) (s : Situation) (k : ℕ) {t : Answered} (all : turns_of k input s ≡ t) (some : 0 < k)
    (r : Result Turn Fault) (next : fate r ≡ turn_of (view_of input s)) where
  pub turns_refused : (f : Fault) → r ≡ Err f → refused_at (fault_number f) s ≡ t
  turns_refused f e =
      let stops = ap (λ b. then b (refused_at (fault_number f) s) (turns_of (k - 1) input)) (fault_stops f) in
      sym (first input s k some ∙ rw (sym next, e) stops) ∙ all

  pub turns_halted : r ≡ Ok Halt → record { answer = 1 ∷ []; after = halted_at s } ≡ t
  turns_halted e = sym (first input s k some ∙ rw (sym next, e)) ∙ all

  pub turns_done : (a : Effect) → r ≡ Ok (Done a) → (s.machine.count ≡ most_count → ⊥) → turns_of (k - 1) input (applied a s) ≡ t
  turns_done a e below = sym (first input s k some ∙ rw (sym next, e, ne_eqb _ _ below)) ∙ all

-- Laws that stand for themselves: a write leaves as many registers as there were.
pub length_registers : (w : Write) (rs : List ℕ) → length (registers_after w rs) ≡ length rs
length_registers Nothing rs = refl
length_registers (Register r v) rs = length-set rs r v
length_registers (Memory a v) rs = refl
length_registers (Output v) rs = refl
