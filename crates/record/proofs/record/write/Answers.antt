-- Three parts are laid, which together are the record.
use Rattle.std.proofs.Common.{rules, ◌∙◌, ap, eq-eqb}
use Rattle.record.specs.Held.{Held}
use Rattle.record.specs.Record.{is_record}
use Rattle.record.proofs.Crossing.{parts_laid, written_record}
use Rattle.record.proofs.record.write.Goals as goal

pub returns-clause-bytes_after : goal.returns-clause-bytes_after
returns-clause-bytes_after c =
    let m = c.args.machine in
    let held : Held m = record { registers = search rules; memory = search rules; count = search rules; limit = search rules } in
    rw (eq-eqb _ _ c.if-bytes-ne-LENGTH.false)
    (parts_laid m held c.args.bytes.now _ _ _ _ c.if-bytes-ne-LENGTH.false c.head.ensures c.lay.ensures c.lay-2.ensures c.lay-3.ensures)

pub returns-clause-bytes_after_2 : goal.returns-clause-bytes_after_2
returns-clause-bytes_after_2 c =
    let m = c.args.machine in
    let held : Held m = record { registers = search rules; memory = search rules; count = search rules; limit = search rules } in
    λ _.
    ap is_record (parts_laid m held c.args.bytes.now _ _ _ _ c.if-bytes-ne-LENGTH.false c.head.ensures c.lay.ensures c.lay-2.ensures c.lay-3.ensures)
    ∙ written_record m held
