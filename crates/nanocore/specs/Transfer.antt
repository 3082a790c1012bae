-- "A transfer copies marked bytes into a machine's memory, no more." "19: a lent image or its marks not 256 long"; "19 comes before every
-- other and changes nothing".
use Rattle.std.specs.Prelude.{ℕ, Bool, true, false, ◌&&◌, List, [], ◌∷◌, length, ◌==◌}
use Rattle.fields.specs.Overlay.{overlaid}
use Rattle.nanocore.specs.declared.machine.Machine.{Machine}

pub record Transferring : Type 0 where
  pub answer : List ℕ
  pub machine : Machine

abbrev pub transfer_by : Bool → Machine → List ℕ → List ℕ → Transferring
transfer_by false m image marks = record { answer = 19 ∷ []; machine = m }
transfer_by true m image marks =
    record {
      answer = 0 ∷ [];
      machine =
          record {
            registers = m.registers;
            memory = overlaid m.memory image marks;
            pc = m.pc;
            sp = m.sp;
            flags = m.flags;
            halted = m.halted;
            count = m.count;
            limit = m.limit;
          };
    }

unfoldable pub transfer_of : Machine → List ℕ → List ℕ → Transferring
transfer_of m image marks = transfer_by (length image == 256 && length marks == 256) m image marks
