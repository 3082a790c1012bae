-- What has room: the records of an image of 256 bytes, with the end record, in 3,596 bytes.
use mathlib.Core.Path.{◌≡◌, ap}
use mathlib.Core.List.{List, [], ◌∷◌}
use Prim.Native.Nat.{ℕ, zero, suc, ◌+◌, ◌*◌, ◌-◌, ◌≤◌}
use native.Mathlib.Omega.{arith}
use lib.ListN.{length, length-append, length-take, take}
use Rattle.hexwrite.specs.Writer.{run, run_line, records_from, text_of}
use Rattle.hexwrite.proofs.LineLaws.{line_length}
use Rattle.hexwrite.proofs.RunLaws.{run_within}
use Rattle.hexwrite.proofs.WalkLaws.{text_rest}

-- the record of a run has at most 14 bytes for each of its bytes
record_few : (n address : ℕ) (bytes : List ℕ) → length (run_line n address bytes) ≤ 14 * n
record_few zero address bytes = omega arith
record_few (suc k) address bytes =
    omega (arith, line_length 0 address (take (suc k) bytes), length-take (suc k) bytes)

records_few :
    (done address : ℕ) (image marks : List ℕ) → length (records_from done address image marks) ≤ 14 * (length marks - done)
unfolding records_from
records_few done address [] marks = omega arith
records_few done address (b ∷ bs) [] = omega arith
records_few (suc done) address (b ∷ bs) (m ∷ ms) = omega (arith, records_few done (address + 1) bs ms)
records_few zero address (b ∷ bs) (m ∷ ms) =
    let n = run address (m ∷ ms) in
    omega (
      arith,
      length-append (run_line n address (b ∷ bs)) (records_from (n - 1) (address + 1) bs ms),
      record_few n address (b ∷ bs),
      run_within address (m ∷ ms),
      records_few (n - 1) (address + 1) bs ms,
    )

-- a buffer of 3,596 bytes or more is never answered by 14
pub text_fits : (image marks : List ℕ) → length marks ≡ 256 → length (text_of image marks) ≤ 3596
text_fits image marks h =
    omega (
      arith,
      simp length-append at (ap length (text_rest image marks)),
      records_few 0 0 image marks,
      line_length 1 0 [],
    )
