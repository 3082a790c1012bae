-- What each turn of the spelling does.
use Rattle.std.proofs.Common.{◌≡◌, ℕ, ◌+◌, ◌*◌, ◌-◌, ◌<◌, ◌≤◌, List, [], ◌∷◌, ◌++◌, length, get_or, take, drop, set, sym, refl, ap, ◌∙◌, add-one, arith, length-set, drop-cons, take-suc-set, lt-ltb}
use Rattle.std.proofs.lemmas.List.{take_all}
use mathlib.Core.Bool.{and-false}
use Rattle.digits.specs.Digit.{digit_of, pair_of}
use Rattle.hexline.specs.Spelling.{Spelling, spells, nothing, before, spelled, digits_of}

-- bytes before those that are spelled
abbrev pub before_all : List ℕ → Spelling → Spelling
before_all [] s = s
before_all (b ∷ bs) s = before b (before_all bs s)

all_nothing : (bs : List ℕ) → before_all bs nothing ≡ nothing
all_nothing [] = refl
all_nothing (b ∷ bs) = ap (before b) (all_nothing bs)

all_none : (bs : List ℕ) → before_all bs (spells []) ≡ spells bs
all_none [] = refl
all_none (b ∷ bs) = ap (before b) (all_none bs)

all_more : (bs : List ℕ) (b : ℕ) (s : Spelling) → before_all (bs ++ (b ∷ [])) s ≡ before_all bs (before b s)
all_more [] b s = refl
all_more (x ∷ bs) b s = ap (before x) (all_more bs b s)

-- so many bytes are spelled, and what is left of the text tells all
pub record Spelt (text filled : List ℕ) (count : ℕ) (rest : List ℕ) : Type 0 where
  pub size : length text ≡ count + count + length rest
  pub room : length filled ≡ 260
  pub left : before_all (take count filled) (spelled rest) ≡ spelled text

module _ {text filled : List ℕ} {count : ℕ} where
  stopped : {rest : List ℕ} → Spelt text filled count rest → spelled rest ≡ nothing → nothing ≡ spelled text
  stopped at none = sym (all_nothing (take count filled)) ∙ sym (ap (before_all (take count filled)) none) ∙ at.left

  pub ended : (rest : List ℕ) → Spelt text filled count rest → length rest ≡ 0 → spells (take count filled) ≡ spelled text
  unfolding spelled
  ended [] at none = sym (all_none (take count filled)) ∙ at.left
  ended (c ∷ rest) at none = absurd (omega arith)

  pub lone : (rest : List ℕ) → Spelt text filled count rest → length rest ≡ 1 → nothing ≡ spelled text
  unfolding spelled
  lone [] at one = absurd (omega arith)
  lone (c ∷ []) at one = stopped at refl
  lone (c ∷ d ∷ rest) at one = absurd (omega arith)

  -- where two bytes are left at least
  pub high_none : (rest : List ℕ) → 2 ≤ length rest → Spelt text filled count rest → digit_of (get_or rest 0 0) ≡ 16 → nothing ≡ spelled text
  unfolding spelled
  high_none [] two at not = absurd (omega arith)
  high_none (c ∷ []) two at not = absurd (omega arith)
  high_none (c ∷ d ∷ rest) two at not = stopped at (rw (not))

  pub low_none : (rest : List ℕ) → 2 ≤ length rest → Spelt text filled count rest → digit_of (get_or rest 1 0) ≡ 16 → nothing ≡ spelled text
  unfolding spelled
  low_none [] two at not = absurd (omega arith)
  low_none (c ∷ []) two at not = absurd (omega arith)
  low_none (c ∷ d ∷ rest) two at not = stopped at (rw (not, and-false))

  pub onward :
      (rest : List ℕ) → 2 ≤ length rest → Spelt text filled count rest → {h l : ℕ} →
      h ≡ digit_of (get_or rest 0 0) → l ≡ digit_of (get_or rest 1 0) → h < 16 → l < 16 → count < 260 →
      Spelt text (set filled count (h * 16 + l)) (count + 1) (take (length rest - 2) (drop 2 rest))
  unfolding spelled
  onward [] two at high low h-is l-is room = absurd (omega arith)
  onward (c ∷ []) two at high low h-is l-is room = absurd (omega arith)
  onward (c ∷ d ∷ rest) two at {h} {l} high low h-is l-is room =
      let spelling : spelled (c ∷ d ∷ rest) ≡ before (h * 16 + l) (spelled rest) =
      rw (← high, ← low, lt-ltb h 16 h-is, lt-ltb l 16 l-is)
      in
      let all : take (length (c ∷ d ∷ rest) - 2) rest ≡ rest = take_all (length (c ∷ d ∷ rest) - 2) rest (omega arith) in
      rw all (record {
        size = omega (arith, at.size);
        room = length-set filled count (h * 16 + l) ∙ at.room;
        left =
            rw (add-one count, take-suc-set filled count (h * 16 + l) (omega (arith, at.room)))
            (all_more (take count filled) (h * 16 + l) (spelled rest)
            ∙ sym (ap (before_all (take count filled)) spelling)
            ∙ at.left);
      })

pub digits_next :
    (bs : List ℕ) (i : ℕ) → i < length bs → digits_of (drop i bs) ≡ pair_of (get_or bs i 0) ++ digits_of (drop (i + 1) bs)
unfolding digits_of
digits_next bs i h = rw (add-one i, drop-cons bs i 0 h)
