-- Laying what is left behind what is written gives what laying all lines gives.
use Rattle.std.proofs.Common.{◌≡◌, ◌+◌, length}
use Rattle.fields.specs.Lay.{laid}
use Rattle.finding.specs.Left.{findings_left}
use Rattle.finding.specs.Line.{lines_of}
use Rattle.spelling.specs.Check.{found}
use Rattle.spelling.proofs.WalkLaws.{text_all}
use Rattle.spelling.proofs.check.write_lines.Given as goal

abbrev pub invariant-loop-standing : goal.invariant-loop-standing
invariant-loop-standing l =
    (l.place + length (text_all (findings_left l.standing-iterator)) ≡ length (lines_of (found l.rule))) ×
    (length l.buffer ≡ length l.initial.buffer) ×
    (laid l.buffer l.place (text_all (findings_left l.standing-iterator)) ≡ laid l.initial.buffer 0 (lines_of (found l.rule)))
