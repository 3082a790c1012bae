-- After some turns, putting what is left of the text on the line gives what putting all of it gives.
use Rattle.std.proofs.Common.{◌≡◌, drop}
use Rattle.text.specs.Lines.{appended}
use Rattle.text.proofs.line.Line.text.Given as goal

abbrev pub invariant-loop-byte : goal.invariant-loop-byte
invariant-loop-byte l = appended l.self (drop l.byte-index l.text) ≡ appended l.fn.self l.text
