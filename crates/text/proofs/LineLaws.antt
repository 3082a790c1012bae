-- Laws of a line that grows: what each turn of the code does, that pieces put one after the other are their text put at
-- once, and that a line holds the text put on it.
use mathlib.Core.Path.{◌≡◌, refl, ◌∙◌, ap}
use mathlib.Core.List.{List, [], ◌∷◌, ◌++◌, append-nil, append_assoc}
use Prim.Native.Nat.{ℕ, suc, ◌+◌, ◌≤◌, ◌<◌}
use native.Mathlib.Nat.{add-zero}
use native.Mathlib.Numerals.{add-one}
use native.Mathlib.Omega.{arith}
use borrow.Author.Tests.{lt-ltb, le-ltb}
use lib.ListN.{length, length-append, length-set, get_or, set, take, take-append-drop, drop, drop_of_length-le, replicate}
use lib.Seq.{drop-cons, take-suc-set}
use Rattle.text.specs.declared.line.Line.{Line}
use Rattle.text.specs.Lines.{put, appended, lined}

abbrev pub made : List ℕ → ℕ → Line
made bytes length = record { bytes = bytes; length = length }

put_room : (bytes : List ℕ) (n b : ℕ) → n < 64 → put (made bytes n) b ≡ made (set bytes n b) (n + 1)
put_room bytes n b room = rw (lt-ltb _ _ room)

pub appended_byte :
    (bytes text : List ℕ) (n i : ℕ) → i < length text → n < 64 →
    appended (made bytes n) (drop i text) ≡ appended (made (set bytes n (get_or text i 0)) (n + 1)) (drop (i + 1) text)
unfolding appended
appended_byte bytes text n i h room =
    rw (add-one i, drop-cons text i 0 h)
    (ap (λ l. appended l (drop (suc i) text)) (put_room bytes n (get_or text i 0) room))

-- a full line stays as it is
pub appended_full : (l : Line) (text : List ℕ) → 64 ≤ l.length → appended l text ≡ l
unfolding appended
appended_full l [] h = refl
appended_full l (b ∷ bs) h = rw (le-ltb _ _ h) (appended_full l bs h)

-- no byte is left
pub appended_end : (l : Line) (text : List ℕ) (i : ℕ) → length text ≤ i → appended l (drop i text) ≡ l
unfolding appended
appended_end l text i h = rw (drop_of_length-le text h)

pub appended_twice : (l : Line) (a b : List ℕ) → appended (appended l a) b ≡ appended l (a ++ b)
unfolding appended
appended_twice l [] b = refl
appended_twice l (x ∷ a) b = appended_twice (put l x) a b

-- a piece put behind others
pub onto : (l : Line) {t : Line} (a b : List ℕ) → t ≡ appended l a → appended t b ≡ appended l (a ++ b)
onto l a b e = ap (λ t. appended t b) e ∙ appended_twice l a b

-- a byte more, where there is room
one_more :
    (bytes text : List ℕ) (n b : ℕ) → n < 64 →
    appended (made bytes n) (b ∷ text) ≡ appended (made (set bytes n b) (n + 1)) text
unfolding appended
one_more bytes text n b room = ap (λ l. appended l text) (put_room bytes n b room)

taken_more :
    (bytes : List ℕ) (n b : ℕ) → n < length bytes → take (n + 1) (set bytes n b) ≡ take n bytes ++ (b ∷ [])
taken_more bytes n b h = rw (add-one, take-suc-set bytes n b h)

-- as long as what was there and what came
pub appended_length :
    (bytes text : List ℕ) (n : ℕ) → n + length text ≤ 64 → (appended (made bytes n) text).length ≡ n + length text
unfolding appended
appended_length bytes [] n room = omega arith
appended_length bytes (b ∷ bs) n room =
    ap (λ l. l.length) (one_more bytes bs n b (omega arith)) ∙
    (appended_length (set bytes n b) bs (n + 1) (omega arith) ∙ omega arith)

-- what was there, and what came behind it
pub appended_bytes :
    (bytes text : List ℕ) (n : ℕ) → n + length text ≤ 64 → length bytes ≡ 64 →
    take (n + length text) (appended (made bytes n) text).bytes ≡ take n bytes ++ text
unfolding appended
appended_bytes bytes [] n room whole = rw (add-zero n, append-nil (take n bytes))
appended_bytes bytes (b ∷ bs) n room whole =
    let next : n + suc (length bs) ≡ n + 1 + length bs = omega arith in
    rw (next, one_more bytes bs n b (omega arith))
    (appended_bytes (set bytes n b) bs (n + 1) (omega arith) (length-set bytes n b ∙ whole) ∙
    rw (taken_more bytes n b (omega arith)) (append_assoc (take n bytes) (b ∷ []) bs))

-- a text that has room is on its line whole
pub holds : (text : List ℕ) → length text ≤ 64 → take (lined text).length (lined text).bytes ≡ text
holds text room =
    rw (appended_length (replicate 64 0) text 0 (omega arith))
    (appended_bytes (replicate 64 0) text 0 (omega arith) refl)

-- a text stands on a line whole
pub record Holds (text : List ℕ) (line : Line) : Type 0 where
  pub whole : take line.length line.bytes ≡ text
  pub size : line.length ≡ length text
  pub within : line.length ≤ length line.bytes

pub line_holds : (text : List ℕ) {line : Line} → length text ≤ 64 → line ≡ lined text → Holds text line
line_holds text {line} room e =
    let whole : take line.length line.bytes ≡ text = rw e (holds text room) in
    let size : line.length ≡ length text = rw e (omega (arith, appended_length (replicate 64 0) text 0 (omega arith))) in
    record {
      whole = whole;
      size = size;
      within =
          omega (arith, ap length whole, simp length-append at (ap length (take-append-drop line.length line.bytes)));
    }

-- what each turn of the code does
pub ruleset line_laws = (appended_byte, appended_full, appended_end)
