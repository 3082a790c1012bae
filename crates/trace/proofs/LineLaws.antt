-- No line is cut: with the numbers that a machine's fields hold, the text has room on a line.
use mathlib.Core.Path.{◌≡◌}
use mathlib.Core.List.{◌++◌}
use Prim.Native.Nat.{◌≤◌, ◌<◌}
use native.Mathlib.Omega.{arith}
use lib.ListN.{length, length-append, take}
use Rattle.nanocore.specs.declared.machine.Machine.{Machine}
use Rattle.text.specs.Decimal.{decimal}
use Rattle.text.specs.Lines.{lined, named}
use Rattle.text.specs.Text.{codes}
use Rattle.text.proofs.DecimalLaws.{few_digits}
use Rattle.text.proofs.LineLaws.{holds}
use Rattle.text.proofs.PieceLaws.{ended_length, named_few}
use Rattle.trace.specs.State.{state_line}

-- pc, sp and flags are bytes, and a count has two
module _ (m : Machine) (hp : m.pc < 256) (hs : m.sp < 256) (hf : m.flags < 256) (hc : m.count < 65536) where
  pub state_fits : length (state_line m) ≤ 64
  unfolding state_line
  state_fits =
      let begun = codes "pc " ++ decimal m.pc in
      omega (
        arith,
        ended_length (begun ++ named (codes "sp") m.sp) (named (codes "flags") m.flags) (named (codes "count") m.count),
        length-append begun (named (codes "sp") m.sp),
        few_digits 2 m.pc (omega arith),
        named_few (codes "sp") 2 m.sp (omega arith),
        named_few (codes "flags") 2 m.flags (omega arith),
        named_few (codes "count") 4 m.count (omega arith),
      )

  pub state_whole :
      let l = lined (state_line m) in
      take l.length l.bytes ≡ state_line m
  state_whole = holds (state_line m) state_fits
