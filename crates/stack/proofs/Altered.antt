-- A step writes one register or one memory byte at most: of every machine, whatever its sp.
use mathlib.Core.Path.{refl, ◌∙◌}
use mathlib.Core.List.{List}
use Prim.Native.Nat.{ℕ}
use native.Mathlib.Omega.{arith}
use lib.ListN.{length-set, set}
use lib.Seq.{get_or-set_other}
use Rattle.effect.specs.declared.Write.{Write}
use Rattle.effect.specs.declared.Write.TheVariants.{Nothing, Register, Memory, Output}
use Rattle.nanocore.specs.Step.{Situation, registers_after, memory_after, step_of}
use Rattle.steps.proofs.Outcome.{by_outcome}
use Rattle.stack.specs.Stack.{OneAltered, Altered, Sized}

none : (l : List ℕ) → OneAltered l l
none l = record { size = refl; place = 0; kept = λ i h. refl }

one : (l : List ℕ) (i b : ℕ) → OneAltered l (set l i b)
one l i b = record { size = length-set l i b; place = i; kept = λ j h. get_or-set_other l i j b 0 (omega arith) }

registers_written : (w : Write) (l : List ℕ) → OneAltered l (registers_after w l)
registers_written Nothing l = none l
registers_written (Register r b) l = one l r b
registers_written (Memory a b) l = none l
registers_written (Output b) l = none l

memory_written : (w : Write) (l : List ℕ) → OneAltered l (memory_after w l)
memory_written Nothing l = none l
memory_written (Register r b) l = none l
memory_written (Memory a b) l = one l a b
memory_written (Output b) l = none l

module _ (input : List ℕ) (s : Situation) where
  registers_altered : OneAltered s.machine.registers (step_of input s).after.machine.registers
  registers_altered =
      by_outcome (λ r. OneAltered s.machine.registers r.after.machine.registers) input s
      (λ number above. none s.machine.registers)
      (λ t. none s.machine.registers)
      (λ e t. registers_written e.write s.machine.registers)

  memory_altered : OneAltered s.machine.memory (step_of input s).after.machine.memory
  memory_altered =
      by_outcome (λ r. OneAltered s.machine.memory r.after.machine.memory) input s
      (λ number above. none s.machine.memory)
      (λ t. none s.machine.memory)
      (λ e t. memory_written e.write s.machine.memory)

  pub step_altered : Altered s.machine (step_of input s).after.machine
  step_altered = record { registers = registers_altered; memory = memory_altered }

  pub step_sized : Sized s.machine → Sized (step_of input s).after.machine
  step_sized sized =
      record {
        registers = registers_altered.size ∙ sized.registers;
        memory = memory_altered.size ∙ sized.memory;
      }
