-- Laws of a turn that the machine cites.
use Rattle.std.proofs.Common.{◌≡◌, ℕ, ◌+◌, ◌%◌, ◌≤◌, Bool, true, false, ◌&&◌, T, eqb, leb, List, [], ◌∷◌, Option, Some, None, get_or, sym, refl, ap, ◌∙◌, arith, leb→le, eqb-true}
use Rattle.byte.proofs.Below.{both}
use Rattle.effect.specs.declared.Effect.{Effect}
use Rattle.byte.specs.Flags.{zn, with_carry}
use Rattle.effect.specs.Numbers.{number_of}
use Rattle.effect.specs.Effects.{kept, loaded, flagged, jumped, pushed, Before, nothing, halts, fault, crowded, done, refused, fate_by, prints}
use Rattle.op.specs.declared.operation.Op.{Op}
use Rattle.op.specs.declared.operation.Op.TheVariants.{PRINT}
use Rattle.op.specs.Operations.{byte_of, decoded, form_of}
use Rattle.op.proofs.Laws.{each, ◌&◌, agree, byte_injective}
use Rattle.instruction.specs.declared.operands.Operands.{Operands}
use Rattle.instruction.specs.Decode.{Decoding, decoding_of, decoded_of}
use Rattle.instruction.specs.Operands.{operands_of, first_of, second_of}
use Rattle.turn.specs.Meaning.{View, effect_of, before_of, fate_of}
use Rattle.turn.specs.Turn.{fetched, fate_at, turn_of}

-- a completed instruction has its own effect
pub done_effect : (b : Before) (own e : Effect) → fate_by b own ≡ done e → own ≡ e
done_effect nothing own e h = cc
done_effect halts own e h = cc
done_effect (fault true f) own e h = cc
done_effect (fault false f) own e h = cc

done_room : (room : Bool) (own e : Effect) → fate_by (crowded room) own ≡ done e → room ≡ true
done_room true own e h = refl
done_room false own e h = cc

-- an instruction is refused with a number of 3 to 8: 3 by its opcode, the others by its own fault
abbrev own_numbers : Before → Bool
own_numbers nothing = true
own_numbers halts = true
own_numbers (fault t f) = leb 3 (number_of f) && leb (number_of f) 8

refused_own :
    (b : Before) (own : Effect) (n : List ℕ) → T (own_numbers b) → fate_by b own ≡ refused n → (3 ≤ number_of n) × (number_of n ≤ 8)
refused_own nothing own n t h = let z : ◌≡◌ {A = ℕ} 0 1 = cc in omega arith
refused_own halts own n t h = let z : ◌≡◌ {A = ℕ} 0 1 = cc in omega arith
refused_own (fault true f) own n t h =
    let same : f ≡ n = cc in
    let parts = both (leb 3 (number_of f)) (leb (number_of f) 8) t in
    rw (← same) (leb→le 3 (number_of f) parts.0, leb→le (number_of f) 8 parts.1)
refused_own (fault false f) own n t h = let z : ◌≡◌ {A = ℕ} 0 1 = cc in omega arith

own_numbers_lem : (x y : ℕ) (v : View) (o : Op) → own_numbers (before_of o x y v) ≡ true
own_numbers_lem x y v = agree (λ o. own_numbers (before_of o x y v)) (λ o. true) refl

module _ (v : View) (n : List ℕ) where
  refused_at_lem : (l : Option Op) (one two three : ℕ) → fate_at (decoding_of l one two three) v ≡ refused n → (3 ≤ number_of n) × (number_of n ≤ 8)
  unfolding fate_of
  refused_at_lem (Some o) one two three h =
      let x = first_of (operands_of (form_of o) two three) in
      let y = second_of (operands_of (form_of o) two three) in
      refused_own (before_of o x y v) (effect_of o x y v) n (rw (own_numbers_lem x y v o) tt) h
  refused_at_lem None one two three h =
      let same : 3 ∷ one ∷ v.core.pc ∷ [] ≡ n = cc in
      rw (← same) (omega arith)

  pub refused_number : turn_of v ≡ refused n → (3 ≤ number_of n) × (number_of n ≤ 8)
  unfolding turn_of decoded_of
  refused_number h =
      let pc = v.core.pc in
      refused_at_lem
      (decoded (get_or v.memory pc 0))
      (get_or v.memory pc 0)
      (get_or v.memory ((pc + 1) % 256) 0)
      (get_or v.memory ((pc + 2) % 256) 0)
      h

-- A completed turn: the instruction that was fetched, and its own effect.
pub record Executed (v : View) (e : Effect) : Type 0 where
  pub op : Op
  pub operands : Operands
  pub instruction : fetched v.memory v.core.pc ≡ Decoding.instruction op operands
  pub fate : fate_by (before_of op (first_of operands) (second_of operands) v) (effect_of op (first_of operands) (second_of operands) v) ≡ done e
  pub effect : effect_of op (first_of operands) (second_of operands) v ≡ e

module _ (v : View) (e : Effect) where
  executed_as : (d : Decoding) → fetched v.memory v.core.pc ≡ d → fate_at d v ≡ done e → Executed v e
  unfolding fate_of
  executed_as (Decoding.instruction o a) f h =
      record {
        op = o;
        operands = a;
        instruction = f;
        fate = h;
        effect = done_effect (before_of o (first_of a) (second_of a) v) (effect_of o (first_of a) (second_of a) v) e h;
      }
  executed_as (Decoding.refused f) g h = let z : ◌≡◌ {A = ℕ} 0 1 = cc in absurd (omega arith)

  pub executed : turn_of v ≡ done e → Executed v e
  unfolding turn_of
  executed h = executed_as (fetched v.memory v.core.pc) refl h

-- of the forty only PRINT gives an output byte
prints_only : (x y : ℕ) (v : View) (o : Op) → prints (effect_of o x y v).write ≡ eqb (byte_of o) (byte_of PRINT)
unfolding kept loaded flagged jumped pushed
prints_only x y v = agree (λ o. prints (effect_of o x y v).write) (λ o. eqb (byte_of o) (byte_of PRINT)) refl

-- so an effect that gives an output byte had room for it
pub prints_room : (v : View) (e : Effect) → turn_of v ≡ done e → prints e.write ≡ true → v.room ≡ true
prints_room v e h p =
    let by = executed v e h in
    let x = first_of by.operands in
    let y = second_of by.operands in
    let prints : prints (effect_of by.op x y v).write ≡ true = ap (λ e. prints e.write) by.effect ∙ p in
    let print : by.op ≡ PRINT = byte_injective by.op PRINT (eqb-true _ _ (sym (prints_only x y v by.op) ∙ prints)) in
    done_room v.room (effect_of PRINT x y v) e (rw print at by.fate)

-- Which flags each operation moves: none; Z and N, by a byte; Z and N by a byte, then C.
pub data Moved (flags : ℕ) : ℕ → Type 0 where
  none : Moved flags flags
  ZN : (result : ℕ) → Moved flags (zn flags result)
  ZNC : (result : ℕ) (carry : Bool) → Moved flags (with_carry (zn flags result) carry)

pub flags_moved : (x y : ℕ) (v : View) (o : Op) → Moved v.core.flags (effect_of o x y v).flags
unfolding kept loaded flagged jumped pushed
flags_moved x y v =
    each (λ o. Moved v.core.flags (effect_of o x y v).flags)
    (none & none & ZN _ & ZN _ & ZN _ & ZN _ & none & none
    & ZN _ & ZNC _ _ & ZNC _ _ & ZNC _ _ & ZNC _ _ & ZN _ & ZN _ & ZN _
    & ZN _ & ZN _ & ZN _ & ZNC _ _ & ZNC _ _ & ZNC _ _ & none & none
    & none & none & ZNC _ _ & ZNC _ _ & ZNC _ _ & ZNC _ _ & ZNC _ _ & ZNC _ _
    & none & none & ZNC _ _ & ZNC _ _ & ZN _ & none & none & none & tt)
