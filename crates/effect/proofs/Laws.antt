-- A fault's number and values tell the fault, and a fate the turn, or the ending of an instruction that does not halt.
use Rattle.std.proofs.Common.{◌≡◌, ℕ, ◌<◌, cond, eqb, List, get_or, Result, Ok, Err, refl, ap, arith}
use Rattle.byte.proofs.Inverse.{undone}
use Rattle.effect.specs.declared.Effect.{Effect}
use Rattle.effect.specs.declared.Fault.{Fault}
use Rattle.effect.specs.declared.Fault.TheVariants.{InvalidOpcode, StackFull, StackEmpty, DivisorZero, NoInput, NoRoom}
use Rattle.effect.specs.declared.Turn.{Turn}
use Rattle.effect.specs.declared.Turn.TheVariants.{Done, Halt}
use Rattle.effect.specs.Effects.{Fate, done, halt, refused}
use Rattle.effect.specs.Numbers.{number_of, fault_number, ending, fate}

-- the fault that has this number and these values
abbrev pub fault_of : List ℕ → Fault
fault_of l =
    cond (eqb (number_of l) 3) (InvalidOpcode (get_or l 1 0) (get_or l 2 0))
    (cond (eqb (number_of l) 4) (StackFull (get_or l 1 0))
    (cond (eqb (number_of l) 5) (StackEmpty (get_or l 1 0))
    (cond (eqb (number_of l) 6) (DivisorZero (get_or l 1 0))
    (cond (eqb (number_of l) 7) NoInput NoRoom))))

pub fault_of_number : (f : Fault) → fault_of (fault_number f) ≡ f
fault_of_number (InvalidOpcode opcode pc) = refl
fault_of_number (StackFull sp) = refl
fault_of_number (StackEmpty sp) = refl
fault_of_number (DivisorZero opcode) = refl
fault_of_number NoInput = refl
fault_of_number NoRoom = refl

-- 3 to 8; 0 and 1 are the numbers of a step that completed
pub fault_high : (f : Fault) → 1 < number_of (fault_number f)
fault_high (InvalidOpcode opcode pc) = omega arith
fault_high (StackFull sp) = omega arith
fault_high (StackEmpty sp) = omega arith
fault_high (DivisorZero opcode) = omega arith
fault_high NoInput = omega arith
fault_high NoRoom = omega arith

pub fault_number_injective : (f g : Fault) → fault_number f ≡ fault_number g → f ≡ g
fault_number_injective = undone fault_number fault_of fault_of_number

abbrev turn_as : Fate → Result Turn Fault
turn_as (done e) = Ok (Done e)
turn_as halt = Ok Halt
turn_as (refused n) = Err (fault_of n)

turn_as_fate : (t : Result Turn Fault) → turn_as (fate t) ≡ t
turn_as_fate (Ok (Done e)) = refl
turn_as_fate (Ok Halt) = refl
turn_as_fate (Err f) = ap Err (fault_of_number f)

pub fate_injective : (t u : Result Turn Fault) → fate t ≡ fate u → t ≡ u
fate_injective = undone fate turn_as turn_as_fate

-- no ending is a halt
abbrev ending_as : Fate → Result Effect Fault
ending_as (done e) = Ok e
ending_as halt = Err NoRoom
ending_as (refused n) = Err (fault_of n)

ending_as_ending : (t : Result Effect Fault) → ending_as (ending t) ≡ t
ending_as_ending (Ok e) = refl
ending_as_ending (Err f) = ap Err (fault_of_number f)

pub ending_injective : (t u : Result Effect Fault) → ending t ≡ ending u → t ≡ u
ending_injective = undone ending ending_as ending_as_ending
