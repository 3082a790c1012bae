-- What is measured and counted, and what is left to measure and count, make what there is.
use Rattle.std.proofs.Common.{◌≡◌, ◌+◌, length}
use Rattle.finding.specs.Found.{plain_in}
use Rattle.finding.specs.Left.{findings_left}
use Rattle.finding.specs.Line.{lines_of}
use Rattle.spelling.specs.Check.{found}
use Rattle.spelling.proofs.WalkLaws.{text_all, instructions_all, plain_all}
use Rattle.spelling.proofs.check.Tally.of.Given as goal

abbrev pub invariant-loop-standing : goal.invariant-loop-standing
invariant-loop-standing l =
    (l.tally.lines + length (text_all (findings_left l.standing-iterator)) ≡ length (lines_of (found l.rule))) ×
    (l.tally.instructions + instructions_all (findings_left l.standing-iterator) ≡ length (found l.rule)) ×
    (l.tally.plain + plain_all (findings_left l.standing-iterator) ≡ plain_in (found l.rule))
