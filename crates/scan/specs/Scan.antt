-- Where bytes of a class stand in a text. Both are places to cut at: before the first, and behind the last.
use Rattle.std.specs.Prelude.{ℕ, zero, suc, ◌+◌, Bool, cond, List, [], ◌∷◌, ltb, length}
use Rattle.scan.specs.declared.class.Class.{Class}
use Rattle.scan.specs.Class.{passes}

-- how many bytes stand before the first of the class: all, where there is none
unfoldable pub first : Class → List ℕ → ℕ
first c [] = 0
first c (b ∷ bs) = cond (passes c b) 0 (suc (first c bs))

-- a byte counts where it is of the class or some byte behind it is
abbrev pub behind : Bool → ℕ → ℕ
behind here zero = cond here 1 0
behind here (suc n) = suc (suc n)

-- how many bytes there are up to the last of the class, with it: 0, where there is none
unfoldable pub last : Class → List ℕ → ℕ
last c [] = 0
last c (b ∷ bs) = behind (passes c b) (last c bs)

abbrev pub some : Class → List ℕ → Bool
some c text = ltb (first c text) (length text)

-- how many bytes are of the class
unfoldable pub count : Class → List ℕ → ℕ
count c [] = 0
count c (b ∷ bs) = cond (passes c b) 1 0 + count c bs
