-- Bytes and numbers at a place of a list; 0 where the list has ended.
use Rattle.std.specs.Prelude.{ℕ, zero, suc, ◌+◌, ◌*◌, ◌-◌, cond, List, [], ◌∷◌, leb, length, get_or, take, drop}

abbrev pub byte_at : List ℕ → ℕ → ℕ
byte_at bytes at = get_or bytes at 0

-- the same of a list whose items have a number each; nothing is the item whose number is 0
abbrev pub value_at : {A : Type 0} → (A → ℕ) → A → List A → ℕ → ℕ
value_at value nothing items at = value (get_or items at nothing)

-- "Numbers longer than a byte are four bytes, the highest first"; 0 where fewer are left
unfoldable pub word_at : List ℕ → ℕ → ℕ
word_at bytes at =
    cond
    (leb (at + 4) (length bytes))
    ((byte_at bytes at * 256 + byte_at bytes (at + 1)) * 65536 + (byte_at bytes (at + 2) * 256 + byte_at bytes (at + 3)))
    0

-- the bytes from one place up to another
abbrev pub part : List ℕ → ℕ → ℕ → List ℕ
part bytes from to = take (to - from) (drop from bytes)

-- so many bytes from a place on
abbrev pub stretch : List ℕ → ℕ → ℕ → List ℕ
stretch bytes at zero = []
stretch bytes at (suc n) = byte_at bytes at ∷ stretch bytes (at + 1) n
