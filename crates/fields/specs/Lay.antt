-- Bytes laid over a memory or a buffer.
use Rattle.std.specs.Prelude.{ℕ, ◌+◌, List, [], ◌∷◌, set}

-- "address and byte: the memory is 0 but for these, a later one winning"
abbrev pub changed : List ℕ → List ℕ → List ℕ
changed memory [] = memory
changed memory (address ∷ []) = memory
changed memory (address ∷ byte ∷ rest) = changed (set memory address byte) rest

-- "which stand in the buffer from the number given on"; what does not fit is left out
abbrev pub laid : List ℕ → ℕ → List ℕ → List ℕ
laid buffer at [] = buffer
laid buffer at (b ∷ bs) = laid (set buffer at b) (at + 1) bs
