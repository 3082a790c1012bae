-- What is left of a listing from a place on: its line, and what is left from the next one on.
use mathlib.Core.Path.{◌≡◌, ◌∙◌}
use mathlib.Core.List.{List, [], ◌∷◌}
use Prim.Native.Nat.{ℕ, ◌+◌, ◌≤◌, ◌<◌}
use native.Mathlib.Omega.{arith}
use lib.ListN.{length, drop}
use Rattle.text.specs.declared.line.Line.{Line}
use Rattle.text.specs.Lines.{lined}
use Rattle.front.specs.Front.{front_of, size_of}
use Rattle.front.specs.Line.{line_at}
use Rattle.front.specs.Listed.{lines_of}
use Rattle.front.proofs.WalkLaws.{walk_none, walk_turn}
use Rattle.row.specs.Left.{text_of}
use Rattle.row.proofs.RoomLaws.{line_whole}

module _ (program : List ℕ) (start at : ℕ) where
  pub left_none : length program ≤ at → lines_of (drop at program) (start + at) ≡ []
  left_none h = walk_none (λ a bytes. line_at a bytes ∷ []) program (start + at) at h

  pub left_turn :
      at < length program → {next : ℕ} {line : Line} → line ≡ lined (line_at (start + at) (drop at program)) →
      next ≡ at + size_of (front_of (drop at program)) →
      lines_of (drop at program) (start + at) ≡ text_of line ∷ lines_of (drop next program) (start + next)
  left_turn h line next =
      let size = size_of (front_of (drop at program)) in
      let behind : start + at + size ≡ start + (at + size) = omega arith in
      rw ((line_whole (start + at) (drop at program) line).whole, next)
      (walk_turn (λ a bytes. line_at a bytes ∷ []) program (start + at) at h ∙ rw behind)
