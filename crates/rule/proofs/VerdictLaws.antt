-- No verdict is cut: with the values that the code's types hold, the text has room on a line.
use mathlib.Core.Path.{◌≡◌}
use mathlib.Core.List.{List, [], ◌∷◌}
use Prim.Native.Nat.{ℕ, ◌≤◌, ◌<◌}
use native.Mathlib.Omega.{arith}
use lib.ListN.{length, length-append, take}
use Rattle.effect.specs.declared.Fault.{Fault}
use Rattle.effect.specs.declared.Fault.TheVariants.{InvalidOpcode, StackFull, StackEmpty, DivisorZero, NoInput, NoRoom}
use Rattle.effect.specs.Numbers.{fault_number}
use Rattle.std.specs.Prelude.{Result, Ok, Err}
use Rattle.nanocore.specs.declared.answer.RunRefusal.{RunRefusal}
use Rattle.nanocore.specs.declared.answer.RunRefusal.TheVariants.{LimitReached}
use Rattle.nanocore.specs.Numbers.{run_number}
use Rattle.text.specs.Lines.{named, lined}
use Rattle.text.specs.Text.{codes}
use Rattle.text.proofs.DecimalLaws.{few_digits}
use Rattle.text.proofs.LineLaws.{holds}
use Rattle.text.proofs.PieceLaws.{ended_length, named_few}
use Rattle.rule.specs.Verdict.{value_name, refusal, said, verdict_of, too_long}

-- opcode, pc and sp are bytes
abbrev pub FaultInRange : Fault → Type 0
FaultInRange (InvalidOpcode opcode pc) = (opcode < 256) × (pc < 256)
FaultInRange (StackFull sp) = sp < 256
FaultInRange (StackEmpty sp) = sp < 256
FaultInRange (DivisorZero opcode) = opcode < 256
FaultInRange NoInput = Unit
FaultInRange NoRoom = Unit

-- a limit has two bytes
abbrev pub InRange : Result Unit RunRefusal → Type 0
InRange (Ok halted) = Unit
InRange (Err (RunRefusal.Fault f)) = FaultInRange f
InRange (Err (LimitReached limit)) = limit < 65536

refusal_few : (n : ℕ) → n < 100 → length (refusal n) ≤ 10
refusal_few n h = omega (arith, few_digits 1 n h)

-- the longest name of a value has six letters, and the largest value five digits
with_value :
    (n v : ℕ) (vs : List ℕ) → n < 100 → length (value_name n) ≤ 6 → v < 65536 → length (said (n ∷ v ∷ vs)) ≤ 23
with_value n v vs few short h =
    omega (
      arith,
      length-append (refusal n) (named (value_name n) v),
      refusal_few n few,
      named_few (value_name n) 4 v (omega arith),
    )

fault_few : (f : Fault) → FaultInRange f → length (said (fault_number f)) ≤ 23
fault_few (InvalidOpcode opcode pc) h = with_value 3 opcode (pc ∷ []) (omega arith) (omega arith) (omega arith)
fault_few (StackFull sp) h = with_value 4 sp [] (omega arith) (omega arith) (omega arith)
fault_few (StackEmpty sp) h = with_value 5 sp [] (omega arith) (omega arith) (omega arith)
fault_few (DivisorZero opcode) h = with_value 6 opcode [] (omega arith) (omega arith) (omega arith)
fault_few NoInput h = omega (arith, refusal_few 7 (omega arith))
fault_few NoRoom h = omega (arith, refusal_few 8 (omega arith))

said_few : (a : Result Unit RunRefusal) → InRange a → length (said (run_number a)) ≤ 23
said_few (Ok halted) h = omega arith
said_few (Err (RunRefusal.Fault f)) h = fault_few f h
said_few (Err (LimitReached limit)) h = with_value 10 limit [] (omega arith) (omega arith) h

module _ (a : Result Unit RunRefusal) (count pc : ℕ) (h : InRange a) (hc : count < 65536) (hp : pc < 256) where
  pub verdict_fits : length (verdict_of (run_number a) count pc) ≤ 64
  unfolding verdict_of
  verdict_fits =
      omega (
        arith,
        ended_length (said (run_number a)) (named (codes "count") count) (named (codes "pc") pc),
        said_few a h,
        named_few (codes "count") 4 count (omega arith),
        named_few (codes "pc") 2 pc (omega arith),
      )

  pub verdict_whole :
      let l = lined (verdict_of (run_number a) count pc) in
      take l.length l.bytes ≡ verdict_of (run_number a) count pc
  verdict_whole = holds (verdict_of (run_number a) count pc) verdict_fits

-- a length is what a program holds, of twenty digits at most
module _ (size start : ℕ) (hl : size < 18446744073709551616) (hs : start < 256) where
  pub too_long_fits : length (too_long size start) ≤ 64
  unfolding too_long
  too_long_fits =
      omega (
        arith,
        ended_length (refusal 11) (named (codes "length") size) (named (codes "start") start),
        refusal_few 11 (omega arith),
        named_few (codes "length") 19 size (omega arith),
        named_few (codes "start") 2 start (omega arith),
      )

  pub too_long_whole :
      let l = lined (too_long size start) in
      take l.length l.bytes ≡ too_long size start
  too_long_whole = holds (too_long size start) too_long_fits
