-- "bytes as two hexadecimal digits each, upper case or lower. Blanks and bars may stand between bytes and mean nothing".
use Rattle.std.specs.Prelude.{ℕ, ◌+◌, ◌*◌, Bool, true, false, cond, ◌||◌, List, [], ◌∷◌, Result, Ok, Err, eqb, ltb, length, set}
use Rattle.digits.specs.Digit.{digit_of}
use Rattle.digits.specs.declared.unhex.Stopped.{Stopped}

-- a blank or a bar
unfoldable pub parts : ℕ → Bool
parts c = eqb c 32 || eqb c 124

-- the answer, and the buffer with it
pub record Told : Type 0 where
  pub answer : Result ℕ Stopped
  pub buffer : List ℕ

abbrev pub told : Result ℕ Stopped → List ℕ → Told
told r buffer = record { answer = r; buffer = buffer }

-- the answer where the reading stops
abbrev pub stopped : ℕ → Result ℕ Stopped
stopped at = Err (record { at = at })

-- by whether a digit stands here, whether a first one waits, whether this parts bytes and whether there is room: the byte is whole, its first
-- digit waits, the place is between bytes, or the reading stops
abbrev pub turn : Bool → Bool → Bool → Bool → Told → Told → Told → Told → Told
turn true true p true whole first between stop = whole
turn true true p false whole first between stop = stop
turn true false p room whole first between stop = first
turn false true p room whole first between stop = stop
turn false false true room whole first between stop = between
turn false false false room whole first between stop = stop

-- the text from a place on, with so many bytes in the buffer and a first digit that waits for its second (16: none waits)
unfoldable pub from : List ℕ → ℕ → List ℕ → ℕ → ℕ → Told
from [] at buffer count high = told (cond (ltb high 16) (stopped at) (Ok count)) buffer
from (c ∷ cs) at buffer count high =
    turn
    (ltb (digit_of c) 16)
    (ltb high 16)
    (parts c)
    (ltb count (length buffer))
    (from cs (at + 1) (set buffer count (high * 16 + digit_of c)) (count + 1) 16)
    (from cs (at + 1) buffer count (digit_of c))
    (from cs (at + 1) buffer count 16)
    (told (stopped at) buffer)

abbrev pub unhexed : List ℕ → List ℕ → Told
unhexed text buffer = from text 0 buffer 0 16
