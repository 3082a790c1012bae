-- Behind what is written, the digits of what is left give those of all.
use Rattle.std.proofs.Common.{◌≡◌, drop}
use Rattle.text.specs.Lines.{appended}
use Rattle.hexline.specs.Spelling.{digits_of}
use Rattle.hexline.proofs.line.digits.Given as goal

abbrev pub invariant-loop-byte : goal.invariant-loop-byte
invariant-loop-byte l =
    appended l.line (digits_of (drop l.byte-index l.bytes)) ≡ appended l.initial.line (digits_of l.bytes)
