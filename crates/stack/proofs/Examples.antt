-- Demand 3's hypotheses are needed: where they do not hold, its clauses do not either. All of it is computed.
use mathlib.Core.Path.{◌≡◌, refl, sym, ◌∙◌, ap}
use mathlib.Core.List.{[], ◌∷◌}
use Prim.Native.Nat.{ℕ}
use native.Mathlib.Omega.{arith}
use lib.ListN.{get_or}
use lib.Seq.{get_or-set_other}
use Rattle.byte.specs.Flags.{zn}
use Rattle.effect.specs.Effects.{kept, loaded, pushed}
use Rattle.instruction.specs.Decode.{decoded_of}
use Rattle.turn.specs.Meaning.{fate_of}
use Rattle.turn.specs.Turn.{turn_of}
use Rattle.nanocore.specs.Step.{step_of}
use Rattle.stack.specs.Event.{put, took, stored}
use Rattle.stack.specs.Demand3.{WrittenHigh, machine_at, event_at, unspent_by}
use Rattle.stack.specs.Examples.{low, overwritten}

-- with sp 0x10 a PUSH completes, and writes at 0x10
pub low_push : (event_at [] low 1 ≡ put 5) × (get_or (machine_at [] low 1).memory 0x10 0 ≡ 0) × (get_or (machine_at [] low 2).memory 0x10 0 ≡ 5)
unfolding step_of turn_of decoded_of fate_of loaded pushed zn
low_push = (refl, refl, refl)

-- so it does not write in 0xEB to 0xFF
pub low_not_high : WrittenHigh 5 (machine_at [] low 1).memory (machine_at [] low 2).memory → ⊥
low_not_high high =
    let before = (machine_at [] low 1).memory in
    let same = ap (λ l. get_or l 0x10 0) high.only ∙ get_or-set_other before high.address 0x10 5 0 (omega (arith, high.least)) in
    let five : ◌≡◌ {A = ℕ} 5 0 = sym low_push.2 ∙ same ∙ low_push.1 in
    omega arith

-- a STORE into an occupied byte: the byte put and not yet taken is 5, and the POP receives 9
pub stored_over : (event_at [] overwritten 3 ≡ stored 0xff) × (unspent_by [] overwritten 4 ≡ 5 ∷ []) × (event_at [] overwritten 4 ≡ took 9)
unfolding step_of turn_of decoded_of fate_of kept loaded pushed zn
stored_over = (refl, refl, refl)
