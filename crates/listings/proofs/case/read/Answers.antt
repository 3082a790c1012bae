-- What unhex counts lies in the buffer.
use Rattle.std.proofs.Common.{sym, length-take-le}
use Rattle.digits.proofs.Inside.{bytes_fit}
use Rattle.listings.proofs.case.read.Goals as goal

pub slice_bounds-bytes-end : goal.slice_bounds-bytes-end
slice_bounds-bytes-end c = bytes_fit _ _ _ _ _ c.unhex.ensures c.in-Ok.is

pub slice_bounds-take-end : goal.slice_bounds-take-end
slice_bounds-take-end c = sym (length-take-le _ _ (bytes_fit _ _ _ _ _ c.unhex.ensures c.in-Ok.is))
