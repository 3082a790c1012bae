-- Laws of the walk through a program: behind a place it goes on with the bytes that follow.
use mathlib.Core.Path.{◌≡◌, refl, ◌∙◌, ap}
use mathlib.Core.List.{List, [], ◌∷◌, ◌++◌}
use Prim.Native.Nat.{ℕ, zero, suc, ◌+◌, ◌-◌, ◌≤◌, ◌<◌}
use native.Mathlib.Omega.{arith}
use lib.ListN.{length, drop, drop_of_length-le}
use lib.Seq.{drop-drop}
use Rattle.front.specs.Front.{front_of, size_of}
use Rattle.front.specs.Walk.{walked}
use Rattle.front.proofs.FrontLaws.{size_within, some_left}

module _ {A : Type 0} (say : ℕ → List ℕ → List A) where
  -- bytes that belong to a place where it was already are passed over
  skipped : (k address : ℕ) (bytes : List ℕ) → walked say k address bytes ≡ walked say 0 (address + k) (drop k bytes)
  unfolding walked
  skipped zero address [] = refl
  skipped zero address (b ∷ bs) = let same : address + 0 ≡ address = omega arith in rw same
  skipped (suc k) address [] = refl
  skipped (suc k) address (b ∷ bs) =
      let next : address + 1 + k ≡ address + suc k = omega arith in
      skipped k (address + 1) bs ∙ ap (λ a. walked say 0 a (drop k bs)) next

  -- what is said first, and behind it what is said from the next place on
  pub walk_first :
      (address : ℕ) (bytes : List ℕ) → 0 < length bytes →
      let size = size_of (front_of bytes) in
      walked say 0 address bytes ≡ say address bytes ++ walked say 0 (address + size) (drop size bytes)
  unfolding walked
  walk_first address [] some = absurd (omega arith)
  walk_first address (b ∷ bs) some =
      ap (λ rest. say address (b ∷ bs) ++ rest) (behind (size_of (front_of (b ∷ bs))) (size_within (b ∷ bs) some).0)
    where
      behind : (size : ℕ) → 1 ≤ size → walked say (size - 1) (address + 1) bs ≡ walked say 0 (address + size) (drop size (b ∷ bs))
      behind zero h = absurd (omega arith)
      behind (suc k) h =
          let less : suc k - 1 ≡ k = omega arith in
          let next : address + 1 + k ≡ address + suc k = omega arith in
          rw less (skipped k (address + 1) bs ∙ ap (λ a. walked say 0 a (drop k bs)) next)

  -- at the end nothing is left to say
  pub walk_none : (program : List ℕ) (address at : ℕ) → length program ≤ at → walked say 0 address (drop at program) ≡ []
  unfolding walked
  walk_none program address at h = rw (drop_of_length-le program h)

  -- the same at a place of a program
  pub walk_turn :
      (program : List ℕ) (address at : ℕ) → at < length program →
      let size = size_of (front_of (drop at program)) in
      walked say 0 address (drop at program)
      ≡ say address (drop at program) ++ walked say 0 (address + size) (drop (at + size) program)
  walk_turn program address at h =
      walk_first address (drop at program) (some_left program at h)
      ∙ rw (drop-drop (size_of (front_of (drop at program))) at program)
