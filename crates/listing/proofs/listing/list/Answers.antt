-- The two tests are the definition's, in its order, and pick its case.
use Rattle.std.proofs.Common.{◌+◌, length, arith, lt-ltb, le-ltb}
use Rattle.listing.specs.Listing.{listing_of}
use Rattle.listing.proofs.listing.list.Goals as goal

pub returns-then-from-program-clause-value : goal.returns-then-from-program-clause-value
unfolding listing_of
returns-then-from-program-clause-value c = rw (lt-ltb 256 (c.args.start + length c.args.program.now) (omega arith))

pub returns-then-buffer-needed-clause-value : goal.returns-then-buffer-needed-clause-value
unfolding listing_of
returns-then-buffer-needed-clause-value c =
    rw (
      le-ltb 256 (c.args.start + length c.args.program.now) (omega arith),
      ← c.measure-needed.ensures,
      lt-ltb _ _ c.if-buffer-needed.true,
    )

pub returns-clause-value : goal.returns-clause-value
unfolding listing_of
returns-clause-value c =
    rw (
      c.write.ensures,
      le-ltb 256 (c.args.start + length c.args.program.now) (omega arith),
      ← c.measure-needed.ensures,
      le-ltb _ _ c.if-buffer-needed.false,
    )
