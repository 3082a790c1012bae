-- What steps and runs do to the lent buffer: "output past those bytes is never written".
use Rattle.std.specs.Prelude.{ℕ, ◌≤◌, ◌<◌, ◌⊎◌, ◌≡◌, List, length, get_or}
use Rattle.nanocore.specs.Step.{Situation}

-- the number written and the buffer before, and the same two after
pub record Printed (before : ℕ) (out : List ℕ) (after : ℕ) (left : List ℕ) : Type 0 where
  -- the number never falls, and stays in the buffer where it began so
  pub more : before ≤ after
  pub inside : before ≤ length out → after ≤ length left
  -- the buffer is as long as it was, and changed at most from the number before to the number after
  pub size : length left ≡ length out
  pub kept : (i : ℕ) → (i < before) ⊎ (after ≤ i) → get_or left i 0 ≡ get_or out i 0

abbrev pub PrintedTo : Situation → Situation → Type 0
PrintedTo s t = Printed s.written s.output t.written t.output
