-- Hexadecimal digits: read in either case, written in upper case.
use Rattle.std.specs.Prelude.{ℕ, ◌+◌, ◌-◌, ◌/◌, ◌%◌, cond, ◌&&◌, List, [], ◌∷◌, leb, ltb}

-- the value of a digit, and 16 where the byte is none
unfoldable pub digit_of : ℕ → ℕ
digit_of c =
    cond
    (leb 48 c && leb c 57)
    (c - 48)
    (cond (leb 65 c && leb c 70) (c - 55) (cond (leb 97 c && leb c 102) (c - 87) 16))

-- an upper-case digit: 0 to 9, then A to F
abbrev pub upper_of : ℕ → ℕ
upper_of d = cond (ltb d 10) (48 + d) (65 + (d - 10))

-- "two upper-case digits"
abbrev pub pair_of : ℕ → List ℕ
pair_of b = upper_of (b / 16) ∷ upper_of (b % 16) ∷ []
