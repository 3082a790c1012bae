-- What is left of a rule from a place on: what is said there, and what is left from the next one on.
use mathlib.Core.Path.{◌≡◌, sym, ◌∙◌, ap}
use mathlib.Core.List.{List, [], ◌∷◌}
use Prim.Native.Nat.{ℕ, ◌+◌, ◌≤◌, ◌<◌}
use lib.ListN.{length, drop}
use Rattle.text.specs.Lines.{lined}
use Rattle.front.specs.Front.{front_of, size_of}
use Rattle.front.proofs.WalkLaws.{walk_none, walk_turn}
use Rattle.finding.specs.declared.finding.Standing.{Standing}
use Rattle.finding.specs.Found.{found_at, plain_in}
use Rattle.finding.specs.Line.{lines_of}
use Rattle.finding.specs.Standing.{said_by, said_of, line_in, instructions_in, plain_ones_in}
use Rattle.finding.specs.Left.{findings_of}
use Rattle.finding.proofs.RoomLaws.{found_holds}

module _ (rule : List ℕ) (at : ℕ) where
  pub left_none : length rule ≤ at → findings_of (drop at rule) at ≡ []
  left_none h = walk_none (λ a bytes. said_of (found_at a bytes) ∷ []) rule at at h

  module _ (s : Standing) (line : line_in s ≡ lined (lines_of (found_at at (drop at rule))))
      (instructions : instructions_in s ≡ length (found_at at (drop at rule))) (plain : plain_ones_in s ≡ plain_in (found_at at (drop at rule)))
    where
      said_there : said_by s ≡ said_of (found_at at (drop at rule))
      said_there = rw ((found_holds at (drop at rule) line).whole, instructions, plain)

      pub left_turn :
          at < length rule → {next : ℕ} → next ≡ at + size_of (front_of (drop at rule)) →
          findings_of (drop at rule) at ≡ said_by s ∷ findings_of (drop next rule) next
      left_turn h next =
          rw next (walk_turn (λ a bytes. said_of (found_at a bytes) ∷ []) rule at at h ∙ ap (λ x. x ∷ findings_of (drop (at + size_of (front_of (drop at rule))) rule) (at + size_of (front_of (drop at rule)))) (sym said_there))
