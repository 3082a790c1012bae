-- "Numbers that come back": the paper's number and values of each case of the answers that this crate gives.
use Rattle.std.specs.Prelude.{ℕ, List, [], ◌∷◌, Result, Ok, Err}
use Rattle.effect.specs.declared.Effect.{Effect}
use Rattle.effect.specs.declared.Fault.{Fault}
use Rattle.effect.specs.declared.Fault.TheVariants.{InvalidOpcode, StackFull, StackEmpty, DivisorZero, NoInput, NoRoom}
use Rattle.effect.specs.declared.Turn.{Turn}
use Rattle.effect.specs.declared.Turn.TheVariants.{Done, Halt}
use Rattle.effect.specs.Effects.{Fate, done, halt, refused}

-- the number alone, of a number and its values
abbrev pub number_of : List ℕ → ℕ
number_of [] = 0
number_of (n ∷ vs) = n

abbrev pub fault_number : Fault → List ℕ
fault_number (InvalidOpcode opcode pc) = 3 ∷ opcode ∷ pc ∷ []
fault_number (StackFull sp) = 4 ∷ sp ∷ []
fault_number (StackEmpty sp) = 5 ∷ sp ∷ []
fault_number (DivisorZero opcode) = 6 ∷ opcode ∷ []
fault_number NoInput = 7 ∷ []
fault_number NoRoom = 8 ∷ []

-- how an instruction ends that does not halt
abbrev pub ending : Result Effect Fault → Fate
ending (Ok e) = done e
ending (Err f) = refused (fault_number f)

abbrev pub fate : Result Turn Fault → Fate
fate (Ok (Done e)) = done e
fate (Ok Halt) = halt
fate (Err f) = refused (fault_number f)
