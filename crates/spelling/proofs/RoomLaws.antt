-- What has room: the last line on a Line, and all lines of a rule in 8,192 bytes.
use mathlib.Core.Path.{◌≡◌}
use mathlib.Core.Bool.{Bool, true, false, cond}
use mathlib.Core.List.{List, [], ◌∷◌}
use Prim.Native.Nat.{ℕ, zero, suc, ◌+◌, ◌*◌, ◌-◌, ◌≤◌}
use native.Mathlib.Omega.{arith}
use lib.ListN.{length, length-append}
use Rattle.text.specs.declared.line.Line.{Line}
use Rattle.text.specs.Lines.{lined}
use Rattle.text.proofs.LineLaws.{Holds, line_holds}
use Rattle.text.proofs.DecimalLaws.{few_digits}
use Rattle.front.specs.declared.front.Front.{Front}
use Rattle.front.specs.declared.front.Front.TheVariants.{Whole, Alone}
use Rattle.front.specs.Front.{front_of, size_of}
use Rattle.front.specs.Walk.{walked}
use Rattle.finding.specs.Found.{Found, found_at, found_by, plain_in}
use Rattle.finding.specs.Line.{lines_of}
use Rattle.finding.proofs.RoomLaws.{lines_short}
use Rattle.spelling.specs.Check.{checked, counts_of, found}
use Rattle.spelling.proofs.WalkLaws.{lines_append}

one_at_most : (front : Front) (address : ℕ) (bytes : List ℕ) → length (found_by front address bytes) ≤ 1
one_at_most (Whole i) address bytes = omega arith
one_at_most (Alone byte) address bytes = omega arith

-- each instruction has a byte at least, and at most one line
abbrev Few : List ℕ → List Found → Type 0
Few bytes fs = (length fs ≤ length bytes) × (length (lines_of fs) ≤ 29 * length bytes)

few : (passed address : ℕ) (bytes : List ℕ) → Few bytes (walked found_at passed address bytes)
unfolding walked
few passed address [] = (omega arith, omega arith)
few (suc passed) address (b ∷ bs) =
    let left = few passed (address + 1) bs in
    (omega (arith, left.0), omega (arith, left.1))
few zero address (b ∷ bs) =
    let front = front_of (b ∷ bs) in
    let left = few (size_of front - 1) (address + 1) bs in (
      simp length-append (omega (arith, one_at_most front address (b ∷ bs), left.0)),
      simp (lines_append, length-append) (omega (arith, lines_short address (b ∷ bs), left.1)),
    )

counted : (plain : Bool) → cond plain 1 0 ≤ 1
counted true = omega arith
counted false = omega arith

plain_few : (fs : List Found) → plain_in fs ≤ length fs
plain_few [] = omega arith
plain_few (f ∷ fs) = omega (arith, counted f.is_plain, plain_few fs)

counts_short : (plain all : ℕ) → plain ≤ all → all ≤ 256 → length (counts_of plain all) ≤ 17
unfolding counts_of
counts_short plain all h k =
    simp length-append (omega (arith, few_digits 2 plain (omega arith), few_digits 2 all (omega arith)))

module _ (rule : List ℕ) (h : length rule ≤ 256) where
  pub found_few : length (found rule) ≤ 256
  found_few = omega (arith, (few 0 0 rule).0)

  pub found_plain : plain_in (found rule) ≤ 256
  found_plain = omega (arith, found_few, plain_few (found rule))

  pub lines_few : length (lines_of (found rule)) ≤ 7424
  lines_few = omega (arith, (few 0 0 rule).1)

  last_short : length (counts_of (plain_in (found rule)) (length (found rule))) ≤ 17
  last_short = counts_short (plain_in (found rule)) (length (found rule)) (plain_few (found rule)) found_few

  -- the last line stands on a Line whole
  pub last_holds :
      {line : Line} → line ≡ lined (counts_of (plain_in (found rule)) (length (found rule))) →
      Holds (counts_of (plain_in (found rule)) (length (found rule))) line
  last_holds = line_holds (counts_of (plain_in (found rule)) (length (found rule))) (omega (arith, last_short))

  -- a buffer of 8,192 bytes or more is never answered by 14
  pub check_fits : length (checked (found rule)) ≤ 8192
  check_fits = simp length-append (omega (arith, lines_few, last_short))
