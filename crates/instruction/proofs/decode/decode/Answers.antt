-- Operands and spelling are those of the operation's own form.
use Rattle.std.proofs.Common.{sym, ◌∙◌, arith}
use Rattle.instruction.proofs.PlainLaws.{answered}
use Rattle.instruction.proofs.decode.decode.Goals as goal

pub returns-clause-decoded : goal.returns-clause-decoded
returns-clause-decoded c =
    rw (c.of_form.ensures, c.form-form.ensures)
    (answered c.args.opcode c.args.second c.args.third c.in_ok-op.op (sym c.decode.ensures ∙ c.in_ok-op.ensures.ok_part) (omega arith)).0

pub returns-clause-spelling : goal.returns-clause-spelling
returns-clause-spelling c =
    rw (c.is_plain.ensures, c.form-form.ensures)
    (answered c.args.opcode c.args.second c.args.third c.in_ok-op.op (sym c.decode.ensures ∙ c.in_ok-op.ensures.ok_part) (omega arith)).1
