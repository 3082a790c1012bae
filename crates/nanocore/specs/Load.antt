-- "Load copies the bytes from a start address (0..255, in the listing too) and sets pc to it; it does not clear halted, count, registers or
-- the rest of memory." "11: start + length above 256", with length and start; "11 loads nothing".
use Rattle.std.specs.Prelude.{ℕ, ◌+◌, Bool, true, false, List, [], ◌∷◌, ◌++◌, length, take, drop, nat_lt}
use Rattle.nanocore.specs.declared.machine.Machine.{Machine}

pub record Loading : Type 0 where
  pub answer : List ℕ
  pub machine : Machine

-- the memory with the bytes laid from an address on
abbrev pub laid : List ℕ → ℕ → List ℕ → List ℕ
laid memory start bytes = take start memory ++ bytes ++ drop (start + length bytes) memory

abbrev pub load_by : Bool → Machine → List ℕ → ℕ → Loading
load_by true m bytes start = record { answer = 11 ∷ length bytes ∷ start ∷ []; machine = m }
load_by false m bytes start =
    record {
      answer = 0 ∷ [];
      machine =
          record {
            registers = m.registers;
            memory = laid m.memory start bytes;
            pc = start;
            sp = m.sp;
            flags = m.flags;
            halted = m.halted;
            count = m.count;
            limit = m.limit;
          };
    }

unfoldable pub load_of : Machine → List ℕ → ℕ → Loading
load_of m bytes start = load_by (nat_lt 256 (start + length bytes)) m bytes start
