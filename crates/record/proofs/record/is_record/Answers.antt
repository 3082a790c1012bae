-- The head that would be written is held to the bytes.
use Rattle.std.proofs.Common.{◌∙◌, ap, eq-eqb}
use Rattle.std.specs.List.{starts_with}
use Rattle.std.proofs.Common.{eqb}
use Rattle.fields.proofs.ApartLaws.{starts_alike}
use Rattle.record.specs.Record.{head_of, is_record, machine_of}
use Rattle.record.proofs.record.is_record.Goals as goal

pub returns-then-bytes-eq-LENGTH : goal.returns-then-bytes-eq-LENGTH
unfolding is_record
returns-then-bytes-eq-LENGTH c =
    let bytes = c.args.bytes.now in
    rw (eq-eqb _ _ c.if-bytes-eq-LENGTH.true)
    (c.starts_with.ensures.value ∙ ap (starts_with eqb bytes) (c.head.ensures ∙ ap head_of c.read.ensures) ∙ starts_alike (head_of (machine_of bytes)) bytes)
