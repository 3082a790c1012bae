-- The parts are what the calls give, of the instruction that decode tells, and what it tells of the spelling.
use Rattle.std.proofs.Common.{◌≡◌, Bool, rules}
use Rattle.instruction.specs.Plain.{spelled, spelling_of}
use Rattle.host_instruction.proofs.decode.decode.Goals as goal

-- what a spelling tells is one thing
told_once : (plain told : Bool) → spelled told ≡ spelled plain → plain ≡ told
told_once plain told e = cc

pub returns-in-Ok : goal.returns-in-Ok
unfolding spelling_of
returns-in-Ok c =
    rw (
      ← c.decode.ensures.decoded,
      c.in-Ok.is,
      told_once _ _ (rw (← c.decode.ensures.decoded, c.in-Ok.is) at c.decode.ensures.spelling),
    )
    (search rules)
