-- Bytes as digits: two hexadecimal digits a byte, "digits in either case".
use Rattle.std.specs.Prelude.{ℕ, ◌+◌, ◌*◌, Bool, cond, ◌&&◌, List, [], ◌∷◌, ◌++◌, nat_lt}
use Rattle.digits.specs.Digit.{digit_of, pair_of}

-- what digits spell: bytes, or nothing, where one is no digit or the last stands alone
pub data Spelling : Type 0 where
  spells : List ℕ → Spelling
  nothing : Spelling

-- a byte before those that are spelled
abbrev pub before : ℕ → Spelling → Spelling
before b (spells bs) = spells (b ∷ bs)
before b nothing = nothing

abbrev pub is_digit : ℕ → Bool
is_digit c = nat_lt (digit_of c) 16

unfoldable pub spelled : List ℕ → Spelling
spelled [] = spells []
spelled (c ∷ []) = nothing
spelled (c ∷ d ∷ cs) =
    cond (is_digit c && is_digit d) (before (digit_of c * 16 + digit_of d) (spelled cs)) nothing

-- the digits of bytes, as they are written: "in upper case"
unfoldable pub digits_of : List ℕ → List ℕ
digits_of [] = []
digits_of (b ∷ bs) = pair_of b ++ digits_of bs
