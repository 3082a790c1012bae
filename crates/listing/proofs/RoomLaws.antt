-- What has room: all lines of a program in 16,384 bytes.
use mathlib.Core.List.{List, [], ◌∷◌}
use Prim.Native.Nat.{ℕ, zero, suc, ◌+◌, ◌*◌, ◌-◌, ◌≤◌}
use native.Mathlib.Omega.{arith}
use lib.ListN.{length, length-append}
use Rattle.front.specs.Front.{front_of, size_of}
use Rattle.front.specs.Line.{line_at}
use Rattle.front.specs.Listed.{listed}
use Rattle.front.specs.Walk.{walked}
use Rattle.row.proofs.RoomLaws.{line_short}

lines_few : (passed address : ℕ) (bytes : List ℕ) → length (walked line_at passed address bytes) ≤ 64 * length bytes
unfolding walked
lines_few passed address [] = omega arith
lines_few (suc passed) address (b ∷ bs) = omega (arith, lines_few passed (address + 1) bs)
lines_few zero address (b ∷ bs) =
    let passed = size_of (front_of (b ∷ bs)) - 1 in
    let rest = walked line_at passed (address + 1) bs in
    omega (
      arith,
      length-append (line_at address (b ∷ bs)) rest,
      line_short address (b ∷ bs),
      lines_few passed (address + 1) bs,
    )

-- a buffer of 16,384 bytes or more is never answered by 14
pub listing_fits : (program : List ℕ) (start : ℕ) → start + length program ≤ 256 → length (listed program start) ≤ 16384
listing_fits program start h = omega (arith, lines_few 0 start program)
