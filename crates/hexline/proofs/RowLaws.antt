-- Laws of what a line is.
use Rattle.std.proofs.Common.{◌≡◌, ℕ, zero, suc, ◌+◌, ◌*◌, ◌<◌, ◌≤◌, Bool, true, false, cond, not, ◌&&◌, eqb, ltb, List, [], ◌∷◌, length, take, sym, refl, ap, ◌∙◌, arith, ltb-true, lt-ltb, eq-eqb, ne_eqb}
use Rattle.std.specs.Prelude.{Option, Some, None, Result, Ok, Err}
use Rattle.digits.specs.Digit.{digit_of}
use Rattle.hexline.specs.declared.record.Misread.{Misread}
use Rattle.hexline.specs.declared.record.Misread.TheVariants.{Shape}
use Rattle.hexline.specs.declared.record.Record.{Record}
use Rattle.hexline.specs.declared.record.Record.TheVariants.{Fills}
use Rattle.hexline.specs.declared.spelled.Spelled.{Spelled}
use Rattle.hexline.specs.Code.{spelling}
use Rattle.hexline.specs.Row.{refused, count_of, type_of, shaped, row_by, row_spelled, without_return}
use Rattle.hexline.specs.Spelling.{Spelling, spells, nothing, before, is_digit, spelled}

-- two digits a byte, and the first byte is one
abbrev Sized : ℕ → Spelling → Type 0
Sized n (spells bs) = (length bs + length bs ≡ n) × (count_of bs ≤ 255)
Sized n nothing = Unit {0}

sized : (digits : List ℕ) → Sized (length digits) (spelled digits)
unfolding spelled
sized [] = (refl, omega arith)
sized (c ∷ []) = tt
sized (c ∷ d ∷ cs) = both (is_digit c) (is_digit d) refl refl (spelled cs) (sized cs)
  where
    both :
        (high low : Bool) → is_digit c ≡ high → is_digit d ≡ low → (s : Spelling) → Sized (length cs) s →
        Sized (length (c ∷ d ∷ cs)) (cond (high && low) (before (digit_of c * 16 + digit_of d) s) nothing)
    both true true h l (spells bs) k = (omega (arith, k.0), omega (arith, ltb-true (digit_of c) 16 h, ltb-true (digit_of d) 16 l))
    both true true h l nothing k = tt
    both true false h l s k = tt
    both false low h l s k = tt

-- more digits than 255 data bytes and five others have
pub too_long : (digits : List ℕ) → 520 < length digits → row_spelled (spelled digits) ≡ refused 20
unfolding row_by
too_long digits long = by (spelled digits) (sized digits)
  where
    by : (s : Spelling) → Sized (length digits) s → row_spelled s ≡ refused 20
    by (spells bs) k = rw (ne_eqb (length bs) (count_of bs + 5) (λ e. omega (arith, k.0, k.1, e)))
    by nothing k = refl

-- Laws that stand for themselves.
pub empty_line_lem : (line : List ℕ) → length line ≡ 0 → without_return line ≡ []
empty_line_lem [] h = refl
empty_line_lem (b ∷ line) h = absurd (omega arith)

-- what the tests of the shape come to
module _ (bs : List ℕ) {count : ℕ} (says : count ≡ count_of bs) where
  pub other_length : (length bs ≡ count + 5 → ⊥) → false ≡ shaped bs
  other_length not = rw (← says, ne_eqb (length bs) (count + 5) not)

  module _ (whole : length bs ≡ count + 5) {type : ℕ} (is : type ≡ type_of bs) where
    pub no_end : (type ≡ 1 → ⊥) → true ≡ shaped bs
    no_end not = rw (← says, ← is, eq-eqb (length bs) (count + 5) whole, ne_eqb type 1 not)

    pub end_shaped : type ≡ 1 → eqb count 0 ≡ shaped bs
    end_shaped end = rw (← says, ← is, eq-eqb (length bs) (count + 5) whole, eq-eqb type 1 end) (by count)
      where
        by : (n : ℕ) → eqb n 0 ≡ not (ltb 0 n)
        by zero = refl
        by (suc n) = rw (lt-ltb 0 (suc n) (omega arith), ne_eqb (suc n) 0 (λ e. omega (arith, e)))

-- a line that is none has no data
pub not_fills : {A : Type 0} {r : Result Record Misread} {s : Spelled} → r ≡ Err Shape → r ≡ Ok (Fills s) → A
not_fills shape fill = cc

-- what was spelled, or was not
pub unspelled : (r : Option Spelled) → r ≡ None → {t : Spelling} → spelling r ≡ t → row_spelled t ≡ refused 20
unspelled r none e = ap row_spelled (sym e) ∙ rw none

pub bytes_tell :
    (r : Option Spelled) {s : Spelled} → r ≡ Some s → {t : Spelling} → spelling r ≡ t →
    row_by (take s.count s.bytes) ≡ row_spelled t
bytes_tell r is e = sym (ap row_spelled (sym e) ∙ rw is)
