-- The longest word, read byte by byte.
use Rattle.std.proofs.Common.{◌≡◌, arith, rules}
use Rattle.std.proofs.lemmas.Slice.Eq.{text_from_reads}
use Rattle.text.specs.Text.{codes}
use Rattle.lines.specs.Line.{word_of}
use Rattle.lines.proofs.line.first_word.Goals as goal

pub returns-in-opcode : goal.returns-in-opcode
unfolding word_of
returns-in-opcode c =
    let e : c.args.text.now ≡ codes "opcode" = text_from_reads _ (codes "opcode") (omega arith) (search rules) in rw e
