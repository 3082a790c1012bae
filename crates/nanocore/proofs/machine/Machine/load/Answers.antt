-- The test of the length is the definition's; the copied bytes are the memory's middle.
use Rattle.std.proofs.Common.{◌+◌, length, take, arith}
use Rattle.std.proofs.Math.Nat.{add-sub_cancel_left}
use Rattle.std.proofs.lemmas.List.{append_assoc, drop-drop}
use borrow.Author.Tests.{lt-ltb, le-ltb}
use Rattle.nanocore.specs.Load.{load_of}
use Rattle.nanocore.proofs.machine.Machine.load.Goals as goal

pub returns-then-from-length : goal.returns-then-from-length
unfolding load_of
returns-then-from-length c = rw (lt-ltb 256 (c.args.start + length c.args.program.now) (omega arith))

pub returns : goal.returns
unfolding load_of
returns c =
    let bytes = c.args.program.now in
    rw (
      le-ltb 256 (c.args.start + length bytes) (omega arith),
      c.copy_from_slice.ensures.after,
      c.from-from.ensures,
      add-sub_cancel_left c.args.start (length bytes),
      drop-drop,
      append_assoc (take c.args.start c.args.self.memory) bytes,
    )
