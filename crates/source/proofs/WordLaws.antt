-- Laws of words and beginnings.
use Rattle.std.proofs.Common.{◌≡◌, refl, sym, ap, ◌∙◌, ℕ, suc, zero-add, not-suc-le-zero, ◌+◌, ◌≤◌, ◌<◌, Bool, true, false, not, cond, ◌||◌, true≢false, eqb, nat_eq, List, [], ◌∷◌, length, take, drop, filter, arith}
use Rattle.std.specs.Cmp.Lexicographic.{pointwise}
use Rattle.std.specs.List.{slice_split, onto_first}
use Rattle.std.proofs.lemmas.Bool.Decides.{nat_tests}
use Rattle.std.proofs.Math.Dec.{eqb-suc-zero}
use mathlib.Core.Bool.{and-false, and-eq-true_iff}
use borrow.Author.Tests.{eqb-true}
use Rattle.text.specs.Text.{codes}
use Rattle.scan.specs.Class.{blank}
use Rattle.names.specs.Names.{same_text}
use Rattle.source.specs.Words.{begun, words_in, words, starts}

-- how many parts are not empty
abbrev pub filled : List (List ℕ) → ℕ
filled parts = length (filter (λ part. not (nat_eq (length part) 0)) parts)

suc-one : (n : ℕ) → suc n ≡ 1 + n
suc-one n = omega arith

-- what a byte, a blank or none, does to the parts behind it; the first of them goes on with a word where one is begun
turn :
    (inside here : Bool) (b : ℕ) (parts : List (List ℕ)) →
    filled (drop (cond inside 1 0) (cond here ([] ∷ parts) (onto_first b parts))) ≡
    cond (inside || here) 0 1 + filled (drop (cond (not here) 1 0) parts)
turn true true b parts = sym (zero-add (filled parts))
turn true false b [] = refl
turn true false b (part ∷ parts) = sym (zero-add (filled parts))
turn false true b parts = sym (zero-add (filled parts))
turn false false b [] = refl
turn false false b (part ∷ parts) = rw (eqb-suc-zero (length part)) (suc-one (filled parts))

-- words are the parts between blanks that are not empty, but for the first, where a word goes on in it
in_parts : (inside : Bool) (bs : List ℕ) → filled (drop (cond inside 1 0) (slice_split blank bs)) ≡ words_in inside bs
unfolding words_in
in_parts true [] = refl
in_parts false [] = refl
in_parts inside (b ∷ bs) =
    turn inside (blank b) b (slice_split blank bs) ∙ ap (λ n. begun inside b + n) (in_parts (not (blank b)) bs)

pub words_filled : (line : List ℕ) → filled (slice_split blank line) ≡ words line
words_filled line = in_parts false line

eqb_swap : (a b : ℕ) → eqb a b ≡ eqb b a
eqb_swap a b = grind (arith, nat_tests)

-- the test of the bytes of a beginning is the test of so many bytes of the line
pub starts_same : (beginning line : List ℕ) → pointwise nat_eq beginning (take (length beginning) line) ≡ starts beginning line
starts_same [] line = refl
starts_same (a ∷ beginning) [] = refl
starts_same (a ∷ beginning) (b ∷ line) = rw (starts_same beginning line, eqb_swap a b)

-- a line that begins with `.DB` has a word
pub data_words : (line : List ℕ) → starts (codes ".DB") line ≡ true → 1 ≤ words line
unfolding words_in
data_words [] e = absurd (true≢false (sym e))
data_words (b ∷ bs) e =
    let both = (and-eq-true_iff (eqb b 46) (same_text (take 2 bs) (codes "DB"))).0 e in
    rw (eqb-true b 46 both.0) (omega arith)

-- Laws that stand for themselves: at a byte one word begins at most.
zero_or_one : (is : Bool) → cond is 0 1 ≤ 1
zero_or_one true = omega arith
zero_or_one false = omega arith

pub begun_one : (inside : Bool) (b : ℕ) → begun inside b ≤ 1
begun_one inside b = zero_or_one (inside || blank b)

-- a line that is shorter than a beginning does not begin with it
pub starts_short : (beginning line : List ℕ) → length line < length beginning → starts beginning line ≡ false
starts_short [] line h = absurd (not-suc-le-zero h)
starts_short (a ∷ beginning) [] h = refl
starts_short (a ∷ beginning) (b ∷ line) h = rw (starts_short beginning line (omega arith)) (and-false (eqb b a))
