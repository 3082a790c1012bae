-- The line of a machine between two steps: pc, sp, flags and count, each by its name.
use Rattle.std.specs.Prelude.{ℕ, List, ◌++◌}
use Rattle.nanocore.specs.declared.machine.Machine.{Machine}
use Rattle.text.specs.Decimal.{decimal}
use Rattle.text.specs.Lines.{named}
use Rattle.text.specs.Text.{codes, line_end}

-- `pc 6 sp 255 flags 3 count 2`
unfoldable pub state_line : Machine → List ℕ
state_line m =
    codes "pc " ++ decimal m.pc
    ++ named (codes "sp") m.sp
    ++ named (codes "flags") m.flags
    ++ named (codes "count") m.count
    ++ line_end
