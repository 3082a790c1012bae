-- Before each line, the pass over those from there on is the pass over all.
use Rattle.std.proofs.Common.{◌≡◌, ◌+◌, ◌≤◌, length, drop}
use Rattle.labels.specs.Pass.{goes, pass, passed}
use Rattle.labels.proofs.PassLaws.{parts_of, bytes_of}
use Rattle.labels.proofs.pass.over_lines.Given as goal

abbrev pub invariant-loop-i : goal.invariant-loop-i
invariant-loop-i l =
    record {
      can_next : (goal.iterator-loop-i).can_next l.i-iterator;
      is_finite : (goal.iterator-loop-i).is_finite l.i-iterator;
      counted : length l.yielded ≤ l.place;
      left : l.place + bytes_of (drop (length l.yielded) (parts_of l.source)) ≡ length l.source + 1;
      passes :
          pass l.source l.place (length l.yielded + 1) (goes l.stand.address l.stand.labels) (drop (length l.yielded) (parts_of l.source)) ≡
          passed l.source;
    }
