-- Each part is cut out where the shape says.
use Rattle.std.proofs.Common.{◌∙◌}
use Rattle.replay.specs.Case.{replayed, zeros}
use Rattle.replay.proofs.case.replay.Goals as goal

pub returns : goal.returns
unfolding replayed zeros
returns c =
    c.play.ensures
    ∙ rw (c.word_at-3.ensures.value, c.word_at-2.ensures.value, c.word_at.ensures.value)
    (rw (c.recorded-theirs.ensures, c.changed-after.ensures, c.stretch-registers.ensures)
    (rw (c.given-machine.ensures, c.stretch.ensures) (rw c.changed-memory.ensures)))
