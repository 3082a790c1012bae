-- Laws of a run of set bytes: how long it is, what it holds and where it ends.
use mathlib.Core.Path.{◌≡◌, refl, ap}
use mathlib.Core.Bool.{Bool, true, false, cond, not}
use mathlib.Core.List.{List, [], ◌∷◌}
use mathlib.Core.Logic.{◌⊎◌, inl, inr, ⊎_map}
use Prim.Native.Nat.{ℕ, zero, suc, ◌+◌, ◌-◌, ◌%◌, ◌≤◌, ◌<◌}
use native.Mathlib.Omega.{arith}
use lib.Dec.{eqb}
use lib.ListN.{length, get_or, take}
use borrow.Author.Tests.{eqb-true, eqb-false}
use Rattle.std.specs.List.{prefix_len}
use Rattle.hexwrite.specs.Writer.{run}

-- so many bytes, from an address and the marks there on
data Runs : ℕ → List ℕ → ℕ → Type 0 where
  ended : {a : ℕ} → Runs a [] 0
  clear : {a m : ℕ} {ms : List ℕ} → m ≡ 0 → Runs a (m ∷ ms) 0
  cut : {a m : ℕ} {ms : List ℕ} → (m ≡ 0 → ⊥) → (a + 1) % 16 ≡ 0 → Runs a (m ∷ ms) 1
  longer : {a m n : ℕ} {ms : List ℕ} → (m ≡ 0 → ⊥) → ((a + 1) % 16 ≡ 0 → ⊥) → Runs (a + 1) ms n → Runs a (m ∷ ms) (suc n)

-- by the two tests of the definition
tested :
    {a m n : ℕ} {ms : List ℕ} (unset last : Bool) → eqb m 0 ≡ unset → eqb ((a + 1) % 16) 0 ≡ last → Runs (a + 1) ms n →
    Runs a (m ∷ ms) (cond unset 0 (suc (cond last 0 n)))
tested {m = m} true last e f more = clear (eqb-true m 0 e)
tested {a} {m} false true e f more = cut (eqb-false m 0 e) (eqb-true ((a + 1) % 16) 0 f)
tested {a} {m} false false e f more = longer (eqb-false m 0 e) (eqb-false ((a + 1) % 16) 0 f) more

runs : (address : ℕ) (marks : List ℕ) → Runs address marks (run address marks)
unfolding run
runs address [] = ended
runs address (m ∷ ms) = tested (eqb m 0) (eqb ((address + 1) % 16) 0) refl refl (runs (address + 1) ms)

before_cut : {a n : ℕ} {ms : List ℕ} → Runs a ms n → a % 16 + n ≤ 16
before_cut ended = omega arith
before_cut (clear unset) = omega arith
before_cut (cut set last) = omega arith
before_cut (longer set on more) = omega (arith, before_cut more)

pub run_short : (address : ℕ) (marks : List ℕ) → run address marks ≤ 16
run_short address marks = omega (arith, before_cut (runs address marks))

within : {a n : ℕ} {ms : List ℕ} → Runs a ms n → n ≤ length ms
within ended = omega arith
within (clear unset) = omega arith
within (cut set last) = omega arith
within (longer set on more) = omega (arith, within more)

pub run_within : (address : ℕ) (marks : List ℕ) → run address marks ≤ length marks
run_within address marks = within (runs address marks)

all_set : {a n : ℕ} {ms : List ℕ} → Runs a ms n → (k : ℕ) → k < n → get_or ms k 0 ≡ 0 → ⊥
all_set ended k h = absurd (omega arith)
all_set (clear unset) k h = absurd (omega arith)
all_set (cut set last) zero h = set
all_set (cut set last) (suc k) h = absurd (omega arith)
all_set (longer set on more) zero h = set
all_set (longer set on more) (suc k) h = all_set more k (omega arith)

-- every mark of a run is set
pub run_set : (address : ℕ) (marks : List ℕ) (k : ℕ) → k < run address marks → get_or marks k 0 ≡ 0 → ⊥
run_set address marks = all_set (runs address marks)

none_set : {a : ℕ} {ms : List ℕ} → Runs a ms 0 → get_or ms 0 0 ≡ 0
none_set ended = refl
none_set (clear unset) = unset

-- and where there is none, the byte is clear
pub run_unset : (address : ℕ) (marks : List ℕ) → run address marks ≡ 0 → get_or marks 0 0 ≡ 0
run_unset address marks e = none_set (rw e at (runs address marks))

-- at the end of the marks, at a clear one, or at an address divisible by 16; there it has a byte at least
abbrev pub Stops : ℕ → List ℕ → ℕ → Type 0
Stops address marks n = (n ≡ length marks) ⊎ ((get_or marks n 0 ≡ 0) ⊎ ((0 < n) × ((address + n) % 16 ≡ 0)))

stops : {a n : ℕ} {ms : List ℕ} → Runs a ms n → Stops a ms n
stops ended = inl refl
stops (clear unset) = inr (inl unset)
stops (cut set last) = inr (inr (omega arith, last))
stops {a} (longer {n = n} set on more) =
    let next : a + 1 + n ≡ a + suc n = omega arith in
    ⊎_map (ap suc) (⊎_map (λ e. e) (λ w. (omega arith, rw next at w.1))) (stops more)

pub run_stops : (address : ℕ) (marks : List ℕ) → Stops address marks (run address marks)
run_stops address marks = stops (runs address marks)

-- up to the next address divisible by 16, the marks from the first on that are not 0
pub run_counted :
    (address : ℕ) (marks : List ℕ) → prefix_len (λ m. not (eqb m 0)) (take (16 - address % 16) marks) ≡ run address marks
unfolding run
run_counted address [] = by (16 - address % 16)
  where
    by : (n : ℕ) → prefix_len (λ m. not (eqb m 0)) (take n []) ≡ 0
    by zero = refl
    by (suc n) = refl
run_counted address (m ∷ ms) =
    let some : 16 - address % 16 ≡ suc (15 - address % 16) = omega arith in
    rw some (by (eqb m 0) (eqb ((address + 1) % 16) 0) refl (run_counted (address + 1) ms))
  where
    by :
        (unset last : Bool) → eqb ((address + 1) % 16) 0 ≡ last →
        prefix_len (λ m. not (eqb m 0)) (take (16 - (address + 1) % 16) ms) ≡ run (address + 1) ms →
        cond (not unset) (1 + prefix_len (λ m. not (eqb m 0)) (take (15 - address % 16) ms)) 0 ≡
        cond unset 0 (suc (cond last 0 (run (address + 1) ms)))
    by true last e more = refl
    by false true e more =
        let none : 15 - address % 16 ≡ 0 = omega (arith, eqb-true ((address + 1) % 16) 0 e) in
        rw none refl
    by false false e more =
        let next : 15 - address % 16 ≡ 16 - (address + 1) % 16 = omega (arith, eqb-false ((address + 1) % 16) 0 e) in
        rw (next, more) (omega arith)
