-- What was read, its pieces put one after the other.
use Rattle.std.proofs.Common.{◌≡◌, ℕ, Result, ◌++◌, sym, ap, ◌∙◌, append_assoc}
use Rattle.hexread.specs.declared.answer.Refusal.{Refusal}
use Rattle.hexread.specs.Numbers.{read_number}
use Rattle.text.specs.Decimal.{decimal}
use Rattle.text.specs.Lines.{appended, empty_line, lined}
use Rattle.text.specs.Text.{codes, line_end}
use Rattle.text.proofs.LineLaws.{onto}
use Rattle.hexverdict.specs.Verdict.{verdict_of}
use Rattle.hexverdict.proofs.verdict.verdict.Goals as goal

by_answer :
    {a b : Result Unit Refusal} (count : ℕ) → a ≡ b → lined (verdict_of (read_number b) count) ≡ lined (verdict_of (read_number a) count)
by_answer count e = sym (ap (λ a. lined (verdict_of (read_number a) count)) e)

pub returns-in-Ok : goal.returns-in-Ok
unfolding verdict_of
returns-in-Ok c =
    let count = c.args.count in
    let one = c.text.ensures ∙ ap (λ l. appended l (codes "read ")) c.empty.ensures in
    let two = c.decimal.ensures ∙ onto empty_line (codes "read ") (decimal count) one in
    c.text-in-Ok.ensures
    ∙ (onto empty_line (codes "read " ++ decimal count) (codes " bytes" ++ line_end) two
    ∙ (ap lined (sym (append_assoc (codes "read " ++ decimal count) (codes " bytes") line_end)) ∙ by_answer count c.in-Ok.is))
