-- Starts that show that demand 3's hypotheses are needed: what becomes of them is computed.
use Rattle.std.specs.Prelude.{ℕ, List, [], ◌∷◌}
use Rattle.nanocore.specs.Load.{laid}
use Rattle.nanocore.specs.Machine.{fresh}
use Rattle.nanocore.specs.Step.{Situation, situated}

-- a program at 0 of a machine that is fresh but for its sp, with no input and no room
abbrev started : List ℕ → ℕ → Situation
started program sp =
    situated
    record {
      registers = fresh.registers;
      memory = laid fresh.memory 0 program;
      pc = fresh.pc;
      sp = sp;
      flags = fresh.flags;
      halted = fresh.halted;
      count = fresh.count;
      limit = fresh.limit;
    }
    0
    []
    0

-- LDI R0 5, PUSH R0, with the stack pointer far below its range
abbrev pub low : Situation
low = started (0x02 ∷ 0x00 ∷ 0x05 ∷ 0x07 ∷ 0x00 ∷ []) 0x10

-- LDI R0 5, PUSH R0, LDI R1 9, STORE R1 0xFF, POP R2: the STORE writes the one occupied byte
abbrev pub overwritten : Situation
overwritten =
    started
    (0x02 ∷ 0x00 ∷ 0x05 ∷ 0x07 ∷ 0x00 ∷ 0x02 ∷ 0x01 ∷ 0x09 ∷ 0x06 ∷ 0x01 ∷ 0xff ∷ 0x08 ∷ 0x02 ∷ [])
    0xff
