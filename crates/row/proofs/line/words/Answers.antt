-- The bytes that are said are as many as the instruction takes, or all where there are fewer.
use Rattle.std.proofs.Common.{refl, ◌∙◌, ap, length, take}
use Rattle.std.proofs.lemmas.List.{take_min}
use Prim.Native.Nat.{min}
use Rattle.op.specs.Operations.{form_of, length_of}
use Rattle.text.specs.Lines.{appended}
use Rattle.text.specs.Text.{codes}
use Rattle.text.proofs.LineLaws.{onto}
use Rattle.front.specs.Line.{byte_text, spaced}
use Rattle.row.proofs.line.words.Goals as goal

pub returns-else-found : goal.returns-else-found
returns-else-found c =
    let bytes = c.args.bytes.now in
    let size = length_of (form_of c.args.found.op) in
    let few = c.min-few.ensures ∙ ap (λ n. min n (length bytes)) (c.from.ensures ∙ c.instruction_len.ensures) in
    c.then_bytes.ensures
    ∙ ap (λ n. appended c.text.result (spaced byte_text (take n bytes))) few
    ∙ ap (λ said. appended c.text.result (spaced byte_text said)) (take_min size bytes)
    ∙ onto c.args.line (codes " .DB") (spaced byte_text (take size bytes)) c.text.ensures
    ∙ rw c.if-found.false refl
