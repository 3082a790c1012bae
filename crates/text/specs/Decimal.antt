-- "numbers are decimal without leading zeros"
use Rattle.std.specs.Prelude.{ℕ, zero, suc, ◌+◌, ◌*◌, ◌-◌, ◌/◌, ◌%◌, Bool, cond, ◌&&◌, List, [], ◌∷◌, ◌++◌, Option, Some, None, eqb, leb}

-- the last digit of a number
abbrev pub last_digit : ℕ → ℕ
last_digit n = 48 + n % 10

-- at most so many digits; of 0 there are none
unfoldable pub digits_of : ℕ → ℕ → List ℕ
digits_of zero n = []
digits_of (suc k) n = cond (eqb n 0) [] (digits_of k (n / 10) ++ (last_digit n ∷ []))

-- the last digit always stands, behind those of what is left; the largest number that a program holds has twenty
unfoldable pub decimal : ℕ → List ℕ
decimal n = digits_of 19 (n / 10) ++ (last_digit n ∷ [])

abbrev pub is_digit : ℕ → Bool
is_digit c = leb 48 c && leb c 57

-- the number that the digits make behind those that made one already, up to 65,535
unfoldable pub value_from : ℕ → List ℕ → Option ℕ
value_from v [] = Some v
value_from v (c ∷ cs) =
    cond (is_digit c && leb (v * 10 + (c - 48)) 65535) (value_from (v * 10 + (c - 48)) cs) None

-- one digit at least, and no 0 before others
unfoldable pub numeral : List ℕ → Option ℕ
numeral [] = None
numeral (c ∷ []) = value_from 0 (c ∷ [])
numeral (c ∷ d ∷ cs) = cond (eqb c 48) None (value_from 0 (c ∷ d ∷ cs))
