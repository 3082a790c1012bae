-- What was decoded, and the test, pick the definition's case.
use Rattle.std.proofs.Common.{◌<◌, ◌≤◌, ap, length, arith}
use borrow.Author.Tests.{le-leb, lt-leb}
use Rattle.op.specs.Operations.{form_of, length_of}
use Rattle.front.specs.Front.{whole}
use Rattle.front.proofs.FrontLaws.{front_read, spelling_read}
use Rattle.front.proofs.front.Front.of.Goals as goal

pub returns-in-Ok : goal.returns-in-Ok
returns-in-Ok c =
    let bytes = c.args.bytes.now in
    let found = c.in-Ok.found in
    let told = c.in-Ok.ensures in
    let one = c.byte_at-first.ensures in
    let two = c.byte_at.ensures in
    let three = c.byte_at-2.ensures in
    let size = length_of (form_of found.op) in
    let fits : size ≤ length bytes = omega (arith, c.instruction_len.ensures, c.from.ensures, c.if-from-bytes.true) in
    rw (front_read bytes _ _ _ one two three _ told.decoded, le-leb size (length bytes) fits)
    (ap (whole found.op found.operands) (spelling_read bytes _ _ _ one two three _ _ _ told.decoded told.spelling fits))

pub returns-in_default : goal.returns-in_default
returns-in_default c =
    let bytes = c.args.bytes.now in
    let size = length_of (form_of c.in-Ok.found.op) in
    let cut : length bytes < size = omega (arith, c.instruction_len.ensures, c.from.ensures, c.if-from-bytes.false) in
    rw (
      front_read bytes _ _ _ c.byte_at-first.ensures c.byte_at.ensures c.byte_at-2.ensures _ c.in-Ok.ensures.decoded,
      lt-leb size (length bytes) cut,
      ← c.byte_at-first.ensures,
    )

pub returns-in_default-2 : goal.returns-in_default-2
returns-in_default-2 c =
    rw (
      front_read c.args.bytes.now _ _ _ c.byte_at-first.ensures c.byte_at.ensures c.byte_at-2.ensures _ c.in_default.ensures.decoded,
      ← c.byte_at-first.ensures,
    )
