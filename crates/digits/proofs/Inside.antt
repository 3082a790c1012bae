-- What unhex counts lies in the buffer.
use mathlib.Core.Path.{◌≡◌, refl, sym, subst}
use mathlib.Core.Bool.{Bool, true, false, cond}
use mathlib.Core.List.{List, [], ◌∷◌}
use Prim.Native.Nat.{ℕ, ◌+◌, ◌*◌, ◌≤◌, zero-le}
use native.Mathlib.Omega.{arith}
use borrow.Author.Tests.{ltb-true}
use lib.Dec.{ltb}
use lib.ListN.{length, set, length-set}
use Rattle.std.specs.Prelude.{Result, Ok, Err}
use Rattle.digits.specs.declared.unhex.Stopped.{Stopped}
use Rattle.digits.specs.Digit.{digit_of}
use Rattle.digits.specs.Unhex.{Told, told, stopped, turn, from, parts, unhexed}

-- the bytes counted are no more than the buffer has
abbrev pub Within : Told → Type 0
Within t = counted t.answer (length t.buffer)
  where
    counted : Result ℕ Stopped → ℕ → Type 0
    counted (Ok n) room = n ≤ room
    counted (Err e) room = Unit {0}

-- what holds of each outcome of a turn holds of the turn; a byte is whole only where there is room
either_way :
    (digit waits apart room : Bool) (whole first between stop : Told) → (room ≡ true → Within whole) → Within first →
    Within between → Within stop → Within (turn digit waits apart room whole first between stop)
either_way true true apart true whole first between stop w f b s = w refl
either_way true true apart false whole first between stop w f b s = s
either_way true false apart room whole first between stop w f b s = f
either_way false true apart room whole first between stop w f b s = s
either_way false false true room whole first between stop w f b s = b
either_way false false false room whole first between stop w f b s = s

at_end :
    (b : Bool) (at count : ℕ) (buffer : List ℕ) → count ≤ length buffer →
    Within (told (cond b (stopped at) (Ok count)) buffer)
at_end true at count buffer h = tt
at_end false at count buffer h = h

within :
    (text : List ℕ) (at : ℕ) (buffer : List ℕ) (count high : ℕ) → count ≤ length buffer →
    Within (from text at buffer count high)
unfolding from
within [] at buffer count high h = at_end (ltb high 16) at count buffer h
within (c ∷ cs) at buffer count high h =
    either_way
    (ltb (digit_of c) 16)
    (ltb high 16)
    (parts c)
    (ltb count (length buffer))
    (from cs (at + 1) (set buffer count (high * 16 + digit_of c)) (count + 1) 16)
    (from cs (at + 1) buffer count (digit_of c))
    (from cs (at + 1) buffer count 16)
    (told (stopped at) buffer)
    (λ e.
    within
    cs
    (at + 1)
    (set buffer count (high * 16 + digit_of c))
    (count + 1)
    16
    (rw (length-set buffer count (high * 16 + digit_of c)) (omega (arith, ltb-true count (length buffer) e))))
    (within cs (at + 1) buffer count (digit_of c) h)
    (within cs (at + 1) buffer count 16 h)
    tt

pub bytes_fit :
    (r : Result ℕ Stopped) (n : ℕ) (after text buffer : List ℕ) → told r after ≡ unhexed text buffer → r ≡ Ok n → n ≤ length after
bytes_fit r n after text buffer e b =
    subst (λ a. Within (told a after)) b (subst Within (sym e) (within text 0 buffer 0 16 zero-le))
