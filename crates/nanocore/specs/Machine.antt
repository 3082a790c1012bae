-- "Sixteen registers R0..R15 and 256 memory bytes, all 0 when fresh; pc 0; sp 0xFF; flags 0; halted no; count 0; limit 1024
-- (any 0..65,535)."
use Rattle.std.specs.Prelude.{ℕ, false, replicate}
use Rattle.nanocore.specs.declared.machine.Machine.{Machine}

abbrev pub fresh : Machine
fresh =
    record {
      registers = replicate 16 0;
      memory = replicate 256 0;
      pc = 0;
      sp = 0xff;
      flags = 0;
      halted = false;
      count = 0;
      limit = 1024;
    }

-- the machine with other flags
abbrev pub with_flags : Machine → ℕ → Machine
with_flags m f =
    record {
      registers = m.registers;
      memory = m.memory;
      pc = m.pc;
      sp = m.sp;
      flags = f;
      halted = m.halted;
      count = m.count;
      limit = m.limit;
    }

-- "count 65,535": the largest
abbrev pub most_count : ℕ
most_count = 65535
