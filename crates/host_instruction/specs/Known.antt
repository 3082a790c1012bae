-- How many opcodes are known.
use Rattle.std.specs.Prelude.{ℕ, zero, suc, ◌+◌, Option, None, Some}
use Rattle.op.specs.declared.operation.Op.{Op}
use Rattle.op.specs.Operations.{decoded}

abbrev pub known : Option Op → ℕ
known (Some o) = 1
known None = 0

-- of the bytes below one
abbrev pub known_below : ℕ → ℕ
known_below zero = 0
known_below (suc b) = known_below b + known (decoded b)
