-- The form is compared by its number.
use Rattle.std.proofs.Common.{sym, ◌∙◌, ap, eq-eqb}
use borrow.Author.Tests.{ne_eqb}
use Rattle.instruction.specs.Encode.{encoded_of, form_number}
use Rattle.host_instruction.specs.Operands.{given}
use Rattle.host_instruction.specs.Instruction.{encode_with}
use Rattle.host_instruction.proofs.encode.encode_with.Goals as goal

pub returns-then-form-form_number : goal.returns-then-form-form_number
unfolding encode_with
returns-then-form-form_number c =
    let number = sym (c.form_number.ensures ∙ ap form_number c.form.ensures) in
    rw (number, ne_eqb _ _ c.if-form-form_number.true)

pub returns : goal.returns
unfolding encode_with
returns c =
    let number = sym (c.form_number.ensures ∙ ap form_number c.form.ensures) in
    let operands = c.given.ensures ∙ ap (λ f. given f c.args.first c.args.second) c.form-2.ensures in
    rw (number, eq-eqb _ _ c.if-form-form_number.false) (c.encode.ensures ∙ ap (encoded_of c.args.op) operands)
