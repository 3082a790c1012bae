-- The record by which a machine crosses to another language: 296 bytes.
use Rattle.std.specs.Prelude.{ℕ, ◌%◌, Bool, ◌&&◌, List, ◌∷◌, ◌++◌, eqb, length}
use Rattle.byte.specs.Flags.{bit}
use Rattle.fields.specs.Apart.{alike}
use Rattle.fields.specs.Read.{byte_at, stretch}
use Rattle.nanocore.specs.declared.machine.Machine.{Machine}
use Rattle.record.specs.Four.{four, four_at}

-- the version of this layout, and the set of operations
abbrev pub layout : ℕ
layout = 1

abbrev pub operation_set : ℕ
operation_set = 1

-- byte 0 the version; 1 the set; 2 pc; 3 sp; 4 flags; 5 halted, 0 or 1; 6..7 zero; 8..11 count; 12..15 limit; 16..19 zero, kept for a sum;
-- 20..23 zero
abbrev pub head_of : Machine → List ℕ
head_of m =
    layout ∷ operation_set ∷ m.pc ∷ m.sp ∷ m.flags ∷ bit m.halted ∷ 0 ∷ 0 ∷ four m.count ++ four m.limit ++ four 0 ++ four 0

-- bytes 24..39 the registers; 40..295 the memory
unfoldable pub record_of : Machine → List ℕ
record_of m = head_of m ++ m.registers ++ m.memory

-- the machine that bytes hold, a record or not; count and limit are of sixteen bits
unfoldable pub machine_of : List ℕ → Machine
machine_of bytes =
    record {
      registers = stretch bytes 24 16;
      memory = stretch bytes 40 256;
      pc = byte_at bytes 2;
      sp = byte_at bytes 3;
      flags = byte_at bytes 4;
      halted = eqb (byte_at bytes 5) 1;
      count = four_at bytes 8 % 65536;
      limit = four_at bytes 12 % 65536;
    }

-- Bytes are a record where writing the machine that they hold gives them again: another length, version or set, a field out of its range and a zero
-- that is not do not come back.
unfoldable pub is_record : List ℕ → Bool
is_record bytes = eqb (length bytes) 296 && eqb (alike (head_of (machine_of bytes)) bytes) 24
