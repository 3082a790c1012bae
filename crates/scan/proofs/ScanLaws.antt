-- What each turn of a scan does, from either end.
use mathlib.Core.Path.{◌≡◌, refl, sym, ◌∙◌, ap}
use mathlib.Core.Bool.{Bool, true, false, cond}
use mathlib.Core.List.{List, [], ◌∷◌}
use mathlib.Core.Logic.{◌⊎◌, inl, inr, ⊎_elim}
use Prim.Native.Nat.{ℕ, zero, suc, ◌+◌, ◌-◌, ◌≤◌, ◌<◌}
use native.Mathlib.Numerals.{add-one, one-add}
use native.Mathlib.Omega.{arith}
use borrow.Author.Tests.{le-leb, lt-leb, le-ltb, lt-ltb}
use Rattle.std.specs.List.{position_or_len}
use Rattle.std.proofs.lemmas.List.Recursion.{is_position_or_len}
use Rattle.std.specs.Prelude.{Option, Some, None, MatchOption}
use Rattle.std.specs.Option.{unwrap_or}
use Rattle.std.proofs.lemmas.List.Sums.{position_or_len_is}
use lib.Dec.{ltb, leb}
use lib.ListN.{length, get_or}
use Rattle.scan.specs.declared.class.Class.{Class}
use Rattle.scan.specs.Class.{passes}
use Rattle.scan.specs.Scan.{first, behind, last, count}

-- none of the class before the byte at i; or none at all
pub first_found :
    (c : Class) (text : List ℕ) (found : Option ℕ) →
    MatchOption
    found
    ((k : ℕ) → k < length text → passes c (get_or text k 0) ≡ false)
    (λ i. ((i < length text) × (passes c (get_or text i 0) ≡ true)) × ((k : ℕ) → k < i → passes c (get_or text k 0) ≡ false)) →
    unwrap_or found (length text) ≡ first c text
unfolding first
first_found c text found at =
    by found at
    ∙ sym (is_position_or_len (first c) (passes c) refl (λ b bs. ap (λ n. cond (passes c b) 0 n) (sym (one-add (first c bs)))) text)
  where
    by :
        (found : Option ℕ) →
        MatchOption
        found
        ((k : ℕ) → k < length text → passes c (get_or text k 0) ≡ false)
        (λ i. ((i < length text) × (passes c (get_or text i 0) ≡ true)) × ((k : ℕ) → k < i → passes c (get_or text k 0) ≡ false)) →
        unwrap_or found (length text) ≡ position_or_len (passes c) text
    by None none = sym (position_or_len_is (passes c) text (length text) 0 (omega arith) none (λ h. absurd (omega arith)))
    by (Some i) at = sym (position_or_len_is (passes c) text i 0 (omega (arith, at.0.0)) at.1 (λ h. at.0.1))

-- up to the byte at i, and none of the class behind it; or none at all
pub last_none :
    (c : Class) (text : List ℕ) → ((k : ℕ) → k < length text → passes c (get_or text k 0) ≡ false) → last c text ≡ 0
unfolding last
last_none c [] none = refl
last_none c (b ∷ bs) none =
    let here : passes c b ≡ false = none 0 (omega arith) in
    let rest : last c bs ≡ 0 = last_none c bs (λ k h. none (suc k) (omega arith)) in
    rw (rest, here)

pub last_here :
    (c : Class) (text : List ℕ) (i : ℕ) → i < length text → passes c (get_or text i 0) ≡ true →
    ((k : ℕ) → i < k → k < length text → passes c (get_or text k 0) ≡ false) → last c text ≡ i + 1
unfolding last
last_here c [] i h e none = absurd (omega arith)
last_here c (b ∷ bs) zero h e none =
    let rest : last c bs ≡ 0 = last_none c bs (λ k h. none (suc k) (omega arith) (omega arith)) in rw (rest, e)
last_here c (b ∷ bs) (suc i) h e none =
    let rest : last c bs ≡ suc i = last_here c bs i (omega arith) e (λ k a b. none (suc k) (omega arith) (omega arith)) ∙ add-one i in
    rw rest (omega arith)

-- both places lie in the text or at its end
pub first_within : (c : Class) (text : List ℕ) → first c text ≤ length text
unfolding first
first_within c [] = omega arith
first_within c (b ∷ bs) = at (passes c b) (first_within c bs)
  where
    at : (here : Bool) → first c bs ≤ length bs → cond here 0 (suc (first c bs)) ≤ suc (length bs)
    at true h = omega arith
    at false h = omega arith

pub last_within : (c : Class) (text : List ℕ) → last c text ≤ length text
unfolding last
last_within c [] = omega arith
last_within c (b ∷ bs) = at (last c bs) refl (passes c b) (last_within c bs)
  where
    at : (n : ℕ) → last c bs ≡ n → (here : Bool) → n ≤ length bs → behind here n ≤ suc (length bs)
    at zero e true h = omega arith
    at zero e false h = omega arith
    at (suc n) e here h = omega arith

-- none of the class; one, which is the first and the last; or two and more, and the last stands behind the first
abbrev Spread : ℕ → ℕ → ℕ → Type 0
Spread f n k = ((k ≡ 0) × (n ≡ 0)) ⊎ (((k ≡ 1) × (n ≡ f + 1)) ⊎ ((2 ≤ k) × (f + 1 < n)))

spread_on :
    (here : Bool) (f n k : ℕ) → Spread f n k → Spread (cond here 0 (suc f)) (behind here n) (cond here 1 0 + k)
spread_on true f zero k s =
    ⊎_elim (λ e. inr (inl (omega (arith, e.0), omega arith))) (⊎_elim (λ e. absurd (omega (arith, e.1))) (λ e. absurd (omega (arith, e.1)))) s
spread_on true f (suc n) k s =
    ⊎_elim
    (λ e. absurd (omega (arith, e.1)))
    (⊎_elim (λ e. inr (inr (omega (arith, e.0), omega arith))) (λ e. inr (inr (omega (arith, e.0), omega arith))))
    s
spread_on false f zero k s =
    ⊎_elim (λ e. inl (omega (arith, e.0), refl)) (⊎_elim (λ e. absurd (omega (arith, e.1))) (λ e. absurd (omega (arith, e.1)))) s
spread_on false f (suc n) k s =
    ⊎_elim
    (λ e. absurd (omega (arith, e.1)))
    (⊎_elim
    (λ e. inr (inl (omega (arith, e.0), omega (arith, e.1))))
    (λ e. inr (inr (omega (arith, e.0), omega (arith, e.1)))))
    s

spread : (c : Class) (text : List ℕ) → Spread (first c text) (last c text) (count c text)
unfolding first last count
spread c [] = inl (refl, refl)
spread c (b ∷ bs) = spread_on (passes c b) (first c bs) (last c bs) (count c bs) (spread c bs)

-- there are two just where the last stands behind the first
pub two_apart : (c : Class) (text : List ℕ) → leb 2 (count c text) ≡ ltb (first c text) (last c text - 1)
two_apart c text = by (first c text) (last c text) (count c text) (spread c text)
  where
    by : (f n k : ℕ) → Spread f n k → leb 2 k ≡ ltb f (n - 1)
    by f n k s =
        ⊎_elim
        (λ e. lt-leb 2 k (omega (arith, e.0)) ∙ sym (le-ltb f (n - 1) (omega (arith, e.1))))
        (⊎_elim
        (λ e. lt-leb 2 k (omega (arith, e.0)) ∙ sym (le-ltb f (n - 1) (omega (arith, e.1))))
        (λ e. le-leb 2 k e.0 ∙ sym (lt-ltb f (n - 1) (omega (arith, e.1)))))
        s

pub ruleset within_laws = (first_within, last_within, last_none)
