-- A list that has begun to take the place of another: its first bytes, and the other's behind them.
use mathlib.Core.Path.{◌≡◌, sym, ◌∙◌, ap}
use mathlib.Core.List.{List, ◌++◌, append-nil}
use Prim.Native.Nat.{ℕ, suc, ◌+◌, ◌-◌, ◌≤◌, ◌<◌}
use native.Mathlib.Numerals.{add-one}
use native.Mathlib.Omega.{arith}
use lib.ListN.{length, get_or, take, drop, drop_of_length-le}
use lib.Seq.{take-suc, drop-cons, append_snoc, take_all, take_at, take-add, drop-drop, length-take-le, drop-append-add, get_or-append-add, get_or-drop}
use Rattle.hexread.specs.File.{filled}

abbrev pub spliced : List ℕ → List ℕ → ℕ → List ℕ
spliced new old a = take a new ++ drop a old

-- a byte in which they agree makes no difference
pub splice_same :
    (new old : List ℕ) (a : ℕ) → a < length new → a < length old → get_or new a 0 ≡ get_or old a 0 → spliced new old (a + 1) ≡ spliced new old a
splice_same new old a h k same =
    rw (add-one a, take-suc new a 0 h, drop-cons old a 0 k, ← same) (append_snoc (take a new) (get_or new a 0) (drop (suc a) old))

-- a stretch of the new is filled
pub splice_run :
    (new old : List ℕ) (a n : ℕ) (held : List ℕ) → a ≤ length new → length held ≡ n → take n (drop a new) ≡ held →
    filled (spliced new old a) a held ≡ spliced new old (a + n)
splice_run new old a n held h size is =
    let long : length (take a new) ≡ a = length-take-le a new h in
    let before : take a (spliced new old a) ≡ take a new = take_at (take a new) (drop a old) a long in
    let behind : drop (a + n) (spliced new old a) ≡ drop (a + n) old =
    ap (λ k. drop (k + n) (spliced new old a)) (sym long) ∙ drop-append-add (take a new) (drop a old) n ∙ drop-drop n a old
    in
    rw (size, before, behind, take-add a n new, is)

-- from there on the bytes are those of the old
pub splice_behind : (new old : List ℕ) (a i : ℕ) → a ≤ length new → a ≤ i → get_or (spliced new old a) i 0 ≡ get_or old i 0
splice_behind new old a i h k =
    let long : length (take a new) ≡ a = length-take-le a new h in
    let place : i ≡ length (take a new) + (i - a) = omega (arith, long) in
    let back : a + (i - a) ≡ i = omega arith in
    ap (λ i. get_or (spliced new old a) i 0) place ∙ get_or-append-add (take a new) (drop a old) (i - a) 0 ∙ get_or-drop a old (i - a) 0 ∙ ap (λ i. get_or old i 0) back

pub splice_all : (new old : List ℕ) (a : ℕ) → length new ≤ a → length old ≤ a → spliced new old a ≡ new
splice_all new old a h k = rw (take_all a new h, drop_of_length-le old k) (append-nil new)
