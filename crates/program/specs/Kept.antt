-- How many bytes of a file stand at the buffer's start.
use Rattle.std.specs.Prelude.{ℕ, Result, Ok, Err}
use Rattle.program.specs.declared.input.NotWhole.{NotWhole}
use Rattle.program.specs.declared.input.NotWhole.TheVariants.{Failed, TooLong}

-- Those of a file that is not there whole too.
abbrev pub bytes_kept : Result ℕ NotWhole → ℕ
bytes_kept (Ok count) = count
bytes_kept (Err (Failed cut)) = cut.count
bytes_kept (Err (TooLong count)) = count
