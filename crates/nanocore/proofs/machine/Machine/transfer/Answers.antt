-- The test is the definition's; the memory is what the overlay promises, and no other field is touched.
use Rattle.std.proofs.Common.{length, arith}
use borrow.Author.Tests.{eq-eqb, ne_eqb}
use Rattle.nanocore.specs.Transfer.{transfer_of}
use Rattle.nanocore.proofs.machine.Machine.transfer.Goals as goal
use Rattle.nanocore.proofs.machine.Machine.transfer.Goals.{
  then-image-ne256-via-then-image-ne256,
  then-image-ne256-via-else-image-ne256+then-marks-ne256,
}

pub returns-then-image-ne256 : goal.returns-then-image-ne256
unfolding transfer_of
returns-then-image-ne256 c =
    elim c.then-image-ne256.branch [
      | then-image-ne256-via-then-image-ne256 w ↦ rw (ne_eqb (length c.args.image.now) 256 (λ e. omega arith))
      | then-image-ne256-via-else-image-ne256+then-marks-ne256 w ↦
          rw (eq-eqb (length c.args.image.now) 256 (omega arith), ne_eqb (length c.args.marks.now) 256 (λ e. omega arith))
    ]

pub returns : goal.returns
unfolding transfer_of
returns c =
    rw (
      c.overlay-self.ensures,
      eq-eqb (length c.args.image.now) 256 (omega arith),
      eq-eqb (length c.args.marks.now) 256 (omega arith),
    )
