-- What is copied, and the zeros behind it, are the bytes from the place on.
use Rattle.fields.proofs.ReadLaws.{stretch_copied}
use Rattle.fields.proofs.read.stretch.Goals as goal

pub returns : goal.returns
returns g c =
    stretch_copied c.args.bytes.now _ c.args.from c.min.result c.min-count.result g.row.N c.min.ensures c.min-count.ensures c.copy_from_slice.ensures.after
