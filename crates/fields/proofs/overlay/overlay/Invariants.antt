-- Once the bytes up to here are laid, laying what is left of the image gives what laying all of it gives.
use Rattle.std.proofs.Common.{◌≡◌, length}
use Rattle.fields.specs.Overlay.{overlaid}
use Rattle.fields.proofs.OverlayLaws.{laid_from}
use Rattle.fields.proofs.overlay.overlay.Given as goal

abbrev pub invariant-loop-i : goal.invariant-loop-i
invariant-loop-i l = (length l.bytes ≡ 256) × (laid_from l.i l.bytes l.image l.marks ≡ overlaid l.fn.bytes l.image l.marks)
