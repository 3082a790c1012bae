-- The stack of one machine, and what one step may alter.
use Rattle.std.specs.Prelude.{ℕ, ◌+◌, ◌-◌, ◌≤◌, ◌≡◌, ◌≢◌, List, length, get_or, drop}
use Rattle.nanocore.specs.declared.machine.Machine.{Machine}

-- "Sixteen registers R0..R15 and 256 memory bytes": of every machine that the code holds, for its arrays have these lengths
pub record Sized (m : Machine) : Type 0 where
  pub registers : length m.registers ≡ 16
  pub memory : length m.memory ≡ 256

-- "the stack pointer in 0xEA to 0xFF"
pub record InRange (m : Machine) : Type 0 where
  pub least : 0xea ≤ m.sp
  pub most : m.sp ≤ 0xff

-- "The occupied stack bytes are those from sp+1 to 0xFF, none at sp 0xFF": whether the byte at an address is one of them
pub record Occupied (m : Machine) (a : ℕ) : Type 0 where
  pub least : m.sp + 1 ≤ a
  pub most : a ≤ 0xff

-- how many they are
abbrev pub depth : Machine → ℕ
depth m = 0xff - m.sp

-- the bytes themselves, the one at sp+1 first and the one at 0xFF last
abbrev pub stack_of : Machine → List ℕ
stack_of m = drop (m.sp + 1) m.memory

-- all but one place at most are as they were
pub record OneAltered (before after : List ℕ) : Type 0 where
  pub size : length after ≡ length before
  pub place : ℕ
  pub kept : (i : ℕ) → i ≢ place → get_or after i 0 ≡ get_or before i 0

-- "A completed step alters at most one register and one memory byte."
pub record Altered (before after : Machine) : Type 0 where
  pub registers : OneAltered before.registers after.registers
  pub memory : OneAltered before.memory after.memory
