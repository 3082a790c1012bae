-- Before each line, what is left of the text does to the sheet what the whole text does to the first one.
use Rattle.std.proofs.Common.{◌≡◌, ◌+◌, ◌≤◌, [], length}
use Rattle.hexread.specs.File.{lines_from, sheet}
use Rattle.hexread.proofs.read.read_lines.Given as goal

abbrev pub invariant-loop-rest : goal.invariant-loop-rest
invariant-loop-rest l = record {
  count : l.number + length l.rest ≤ length l.text + 1;
  same : lines_from l.number [] (sheet l.sheet.image l.sheet.marks) l.rest
      ≡ lines_from 1 [] (sheet l.initial.sheet.image l.initial.sheet.marks) l.text;
}

abbrev pub decreases-loop-rest : goal.decreases-loop-rest
decreases-loop-rest l = length l.rest
