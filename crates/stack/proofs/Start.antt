-- Where demand 3's hypotheses hold: of a fresh machine, and of one that a program is loaded into, whatever its limit.
use mathlib.Core.Path.{◌≡◌, refl, ◌∙◌}
use mathlib.Core.Bool.{Bool, true, false}
use mathlib.Core.List.{List, ◌++◌}
use Prim.Native.Nat.{ℕ, ◌+◌, ◌≤◌}
use native.Mathlib.Omega.{arith}
use lib.Dec.{ltb}
use lib.ListN.{length, length-append, length-drop, take, drop}
use lib.Seq.{length-take-le}
use borrow.Author.Tests.{ltb-false}
use Rattle.nanocore.specs.declared.machine.Machine.{Machine}
use Rattle.nanocore.specs.Load.{laid, load_by, load_of}
use Rattle.nanocore.specs.Machine.{fresh}
use Rattle.stack.specs.Stack.{Sized, InRange}

pub fresh_sized : Sized fresh
fresh_sized = record { registers = refl; memory = refl }

pub fresh_range : InRange fresh
fresh_range = record { least = omega arith; most = omega arith }

length_laid : (memory bytes : List ℕ) (start : ℕ) → start + length bytes ≤ length memory → length (laid memory start bytes) ≡ length memory
length_laid memory bytes start h =
    let front = length-take-le start memory (omega arith) in
    let rest = length-drop (start + length bytes) memory in
    rw
    (length-append (take start memory ++ bytes) (drop (start + length bytes) memory), length-append (take start memory) bytes, front, rest)
    (omega arith)

module _ (m : Machine) (bytes : List ℕ) (start : ℕ) where
  by_room : (b : Bool) → ltb 256 (start + length bytes) ≡ b → Sized m → Sized (load_by b m bytes start).machine
  by_room true h sized = sized
  by_room false h sized =
      let room = ltb-false 256 (start + length bytes) h in
      record {
        registers = sized.registers;
        memory = length_laid m.memory bytes start (omega (arith, sized.memory)) ∙ sized.memory;
      }

  pub load_sized : Sized m → Sized (load_of m bytes start).machine
  unfolding load_of
  load_sized sized = by_room (ltb 256 (start + length bytes)) refl sized

  same_sp : (b : Bool) → (load_by b m bytes start).machine.sp ≡ m.sp
  same_sp true = refl
  same_sp false = refl

  pub load_range : InRange m → InRange (load_of m bytes start).machine
  unfolding load_of
  load_range range =
      let same = same_sp (ltb 256 (start + length bytes)) in
      record { least = omega (arith, same, range); most = omega (arith, same, range) }
