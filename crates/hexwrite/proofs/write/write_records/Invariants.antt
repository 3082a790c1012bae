-- Laying what is left behind what is written gives what laying the whole text gives.
use Rattle.std.proofs.Common.{◌≡◌, ◌*◌, ◌≤◌, [], ◌++◌, length}
use Rattle.fields.specs.Lay.{laid}
use Rattle.hexline.specs.Line.{line_of}
use Rattle.hexwrite.specs.Writer.{rest, text_of}
use Rattle.hexwrite.proofs.write.write_records.Given as goal

abbrev pub invariant-loop-run : goal.invariant-loop-run
invariant-loop-run l = record {
  can : (goal.iterator-loop-run).can_next l.run-iterator;
  same : l.run-iterator.marks.now ≡ l.marks;
  inside : l.run-iterator.at ≤ 256;
  few : l.place ≤ 14 * l.run-iterator.at;
  long : length l.buffer ≡ length l.initial.buffer;
  whole : laid l.buffer l.place (rest l.image l.marks l.run-iterator.at ++ line_of 1 0 [])
      ≡ laid l.initial.buffer 0 (text_of l.image l.marks);
}
