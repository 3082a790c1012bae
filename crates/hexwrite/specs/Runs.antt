-- What the walk over the runs gives.
use Rattle.std.specs.Prelude.{◌≡◌, ℕ, ◌+◌, ◌<◌, ◌≤◌, List, [], ◌++◌, length, take, drop, Option, MatchOption}
use Rattle.hexwrite.specs.declared.runs.Run.{Run}
use Rattle.hexwrite.specs.declared.runs.Runs.{Runs}
use Rattle.hexline.specs.Line.{line_of}
use Rattle.hexwrite.specs.Writer.{rest}

-- the record of a run
abbrev pub record_of_run : (image : List ℕ) → Run → List ℕ
record_of_run image r = line_of 0 r.address (take r.count (drop r.address image))

-- a run of at least one byte and sixteen at most, whose record is what is left to write up to the place behind it
pub record IsNextRun (marks : List ℕ) (from : ℕ) (r : Run) (behind : ℕ) : Type 0 where
  pub here : from ≤ r.address
  pub some : 0 < r.count
  pub few : r.count ≤ 16
  pub ends : r.address + r.count ≡ behind
  pub inside : behind ≤ 256
  pub left : (image : List ℕ) → length image ≡ 256 → rest image marks from ≡ record_of_run image r ++ rest image marks behind

-- where there is no run, nothing is left to write
abbrev pub IsDone : (marks : List ℕ) (from : ℕ) → Type 0
IsDone marks from = (image : List ℕ) → length image ≡ 256 → rest image marks from ≡ []

abbrev pub run_steps : Runs → Option Run → Runs → Type 0
run_steps s r t =
    (t.marks.now ≡ s.marks.now)
    × MatchOption r (IsDone s.marks.now s.at) (λ run. IsNextRun s.marks.now s.at run t.at)
