-- The walk through a program, from its first byte on: behind an instruction, and behind a byte that stands alone, it goes on with the next byte.
use Rattle.std.specs.Prelude.{ℕ, zero, suc, ◌+◌, ◌-◌, List, [], ◌∷◌, ◌++◌}
use Rattle.front.specs.Front.{front_of, size_of}

-- what is said of the bytes from an address on, at each place that it comes to; the first so many bytes belong to a place where it was already
unfoldable pub walked : {A : Type 0} → (ℕ → List ℕ → List A) → ℕ → ℕ → List ℕ → List A
walked say passed address [] = []
walked say (suc passed) address (b ∷ bs) = walked say passed (address + 1) bs
walked say zero address (b ∷ bs) =
    say address (b ∷ bs) ++ walked say (size_of (front_of (b ∷ bs)) - 1) (address + 1) bs
