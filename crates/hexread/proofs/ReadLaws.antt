-- What the reading comes to, of the image itself. Laws that stand for themselves.
use mathlib.Core.Path.{◌≡◌, ap}
use mathlib.Core.List.{List, [], ◌∷◌}
use borrow.Author.Tests.{eq-eqb}
use Prim.Native.Nat.{ℕ}
use lib.ListN.{length, replicate}
use Rattle.hexread.specs.File.{Outcome, accepted, lines_from, reading_of, sheet, told, told_by}

module _ (text image marks : List ℕ) (image-long : length image ≡ 256) (marks-long : length marks ≡ 256) where
  -- what the lines come to is what the text comes to
  pub read_onto : {o : Outcome} → o ≡ lines_from 1 [] (sheet image (replicate 256 0)) text → told_by o image marks ≡ reading_of text image marks
  unfolding reading_of
  read_onto read =
      rw (eq-eqb (length image) 256 image-long, eq-eqb (length marks) 256 marks-long) (ap (λ o. told_by o image marks) read)

  -- image and marks take what was read
  pub read_back :
      {after found image' marks' : List ℕ} → accepted (sheet after found) ≡ lines_from 1 [] (sheet image (replicate 256 0)) text →
      image' ≡ after → marks' ≡ found → told (0 ∷ []) image' marks' ≡ reading_of text image marks
  read_back read i m = rw (i, m) (read_onto read)
