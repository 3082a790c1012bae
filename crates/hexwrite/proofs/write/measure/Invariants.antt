-- What is measured and the length of what is left make the whole length.
-- A record has at most 14 bytes for each byte of its run.
use Rattle.std.proofs.Common.{◌≡◌, ◌+◌, ◌*◌, ◌≤◌, length}
use Rattle.hexwrite.specs.Writer.{rest, text_of}
use Rattle.hexwrite.proofs.write.measure.Given as goal

abbrev pub invariant-loop-run : goal.invariant-loop-run
invariant-loop-run l = record {
  can : (goal.iterator-loop-run).can_next l.run-iterator;
  same : l.run-iterator.marks.now ≡ l.marks;
  inside : l.run-iterator.at ≤ 256;
  few : l.needed ≤ 12 + 14 * l.run-iterator.at;
  whole : l.needed + length (rest l.image l.marks l.run-iterator.at)
      ≡ length (text_of l.image l.marks);
}
