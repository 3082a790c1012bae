-- A turn writes the two digits of one byte.
use Rattle.std.proofs.Common.{◌+◌, ◌++◌, drop, sym, ap, ◌∙◌, arith, drop_of_length-le}
use Rattle.text.specs.Lines.{appended}
use Rattle.text.proofs.LineLaws.{onto}
use Rattle.hexline.specs.Spelling.{digits_of}
use Rattle.hexline.proofs.SpellLaws.{digits_next}
use Rattle.hexline.proofs.line.digits.Goals as goal

pub loop-byte-preserved : goal.loop-byte-preserved
loop-byte-preserved c =
    let l = c.loop-byte in
    let bytes = c.args.bytes.now in
    onto l.line c.pair.result (digits_of (drop (l.byte-index + 1) bytes)) c.text-line.ensures
    ∙ ap (λ two. appended l.line (two ++ digits_of (drop (l.byte-index + 1) bytes))) c.pair.ensures
    ∙ sym (ap (appended l.line) (digits_next bytes l.byte-index (omega arith)))
    ∙ l.invariant

pub returns : goal.returns
unfolding digits_of appended
returns c = rw (drop_of_length-le c.args.bytes.now {i = c.loop-byte.byte-index} (omega arith)) at c.loop-byte.invariant
