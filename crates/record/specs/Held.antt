-- What holds of every machine that the code holds, by the types of its fields: "Sixteen registers R0..R15 and 256 memory bytes", count and limit
-- "0..65,535".
use Rattle.std.specs.Prelude.{◌≤◌, ◌≡◌, length}
use Rattle.nanocore.specs.declared.machine.Machine.{Machine}

pub record Held (m : Machine) : Type 0 where
  pub registers : length m.registers ≡ 16
  pub memory : length m.memory ≡ 256
  pub count : m.count ≤ 65535
  pub limit : m.limit ≤ 65535
