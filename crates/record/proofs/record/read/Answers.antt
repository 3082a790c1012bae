-- Each field is read where the definition reads it.
use Rattle.record.specs.Record.{machine_of}
use Rattle.record.proofs.record.read.Goals as goal

pub returns : goal.returns
unfolding machine_of
returns c =
    rw (
      c.four_at-2.ensures,
      c.four_at.ensures,
      c.byte_at-4.ensures,
      c.byte_at-3.ensures,
      c.byte_at-2.ensures,
      c.byte_at.ensures,
      c.stretch.ensures,
      c.registers.ensures,
    )
