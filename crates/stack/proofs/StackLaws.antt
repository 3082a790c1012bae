-- What one step does to the stack: by what it did with it, over sp and memory alone.
use mathlib.Core.Path.{◌≡◌, refl, sym, ◌∙◌, ap}
use mathlib.Core.List.{List, ◌∷◌}
use mathlib.Core.Bool.{Bool, true, false}
use mathlib.Core.Logic.{◌≢◌}
use Prim.Native.Nat.{ℕ, suc, ◌+◌, ◌-◌, ◌%◌, ◌≤◌, ◌<◌}
use native.Mathlib.Omega.{arith}
use lib.Dec.{leb}
use lib.ListN.{length, length-set, get_or, set, drop}
use lib.Seq.{drop-cons, drop-set-lt, get_or-set_same, set_out}
use borrow.Author.Tests.{leb-true, leb-false}
use Rattle.byte.specs.Arithmetic.{wrapped_sub}
use Rattle.stack.specs.Event.{Event, put, took, stored, puts, takes, unspent}
use Rattle.stack.proofs.Meets.{Allowed, Met}

apart_from : ◌≡◌ {A = ℕ} 0 1 → ⊥
apart_from e = omega arith

module _ (sp : ℕ) (memory : List ℕ) (least : 0xea ≤ sp) (most : sp ≤ 0xff) where
  -- sp stays in its range, and the occupied bytes are one more, one less or as many
  pub moves :
      (ev : Event) (to : ℕ) (left : List ℕ) → Allowed sp ev → Met sp memory ev to left →
      (0xea ≤ to) × (to ≤ 0xff) × (0xff - to + takes ev ≡ 0xff - sp + puts ev)
  moves ev to left free (Met.puts b) = (omega arith, omega arith, omega arith)
  moves ev to left free (Met.takes b e) = (omega arith, omega arith, omega arith)
  moves ev to left free (Met.stores a b) = (least, most, refl)
  moves ev to left free Met.apart = (least, most, refl)

  -- a byte that is put is written at sp, which is not at its least
  pub gives :
      (ev : Event) (to : ℕ) (left : List ℕ) → Allowed sp ev → Met sp memory ev to left →
      (b : ℕ) → ev ≡ put b → (sp ≢ 0xea) × (left ≡ set memory sp b)
  gives ev to left free (Met.puts x) b e = (free, cc)
  gives ev to left free (Met.takes x y) b e = absurd (apart_from (ap puts e))
  gives ev to left free (Met.stores a x) b e = absurd (apart_from (ap puts e))
  gives ev to left free Met.apart b e = absurd (apart_from (ap puts e))

  module _ (size : length memory ≡ 256) where
    -- the byte at an address stands before those behind it
    from : (a : ℕ) → a ≤ 0xff → drop a memory ≡ get_or memory a 0 ∷ drop (suc a) memory
    from a h = drop-cons memory a 0 (omega (arith, size))

    -- a taken byte is the first of the occupied ones
    taken : (b : ℕ) → Allowed sp (took b) → b ≡ get_or memory ((sp + 1) % 256) 0 → drop (sp + 1) memory ≡ b ∷ drop ((sp + 1) % 256 + 1) memory
    taken b free e =
        let up : (sp + 1) % 256 ≡ sp + 1 = omega arith in
        let next : suc (sp + 1) ≡ sp + 1 + 1 = omega arith in
        rw (e, up, from (sp + 1) (omega arith), next)

    -- a byte that is put is written before them
    given : (b : ℕ) → drop (wrapped_sub sp 1 + 1) (set memory sp b) ≡ b ∷ drop (sp + 1) memory
    given b =
        let down : wrapped_sub sp 1 + 1 ≡ sp = omega arith in
        let next : suc sp ≡ sp + 1 = omega arith in
        let inside : sp < length (set memory sp b) = rw (length-set memory sp b) (omega (arith, size)) in
        rw (
          down,
          drop-cons (set memory sp b) sp 0 inside,
          get_or-set_same memory sp b 0 (omega (arith, size)),
          next,
          drop-set-lt (sp + 1) memory sp b (omega arith),
        )

    -- a byte that is stored elsewhere leaves them
    spared : (a b : ℕ) → (sp + 1 ≤ a → a ≤ 0xff → ⊥) → drop (sp + 1) (set memory a b) ≡ drop (sp + 1) memory
    spared a b away = by (leb a sp) refl
      where
        by : (below : Bool) → leb a sp ≡ below → drop (sp + 1) (set memory a b) ≡ drop (sp + 1) memory
        by true h = let low = leb-true a sp h in drop-set-lt (sp + 1) memory a b (omega arith)
        by false h =
            let high = leb-false a sp h in
            let past : a ≤ 0xff → ⊥ = away (omega arith) in
            ap (drop (sp + 1)) (set_out memory a b (omega (arith, size)))

    -- what is put and not yet taken are the occupied bytes
    pub held :
        (ev : Event) (to : ℕ) (left : List ℕ) → Allowed sp ev → Met sp memory ev to left →
        ((a : ℕ) → ev ≡ stored a → sp + 1 ≤ a → a ≤ 0xff → ⊥) → drop (to + 1) left ≡ unspent ev (drop (sp + 1) memory)
    held ev to left free (Met.puts b) away = given b
    held ev to left free (Met.takes b e) away = ap (unspent (took b)) (sym (taken b free e))
    held ev to left free (Met.stores a b) away = spared a b (away a refl)
    held ev to left free Met.apart away = refl

    pub receives :
        (ev : Event) (to : ℕ) (left : List ℕ) → Allowed sp ev → Met sp memory ev to left →
        (b : ℕ) → ev ≡ took b → drop (sp + 1) memory ≡ b ∷ drop (to + 1) left
    receives ev to left free (Met.puts x) b e = cc
    receives ev to left free (Met.takes x y) b e = taken x free y ∙ cc
    receives ev to left free (Met.stores a x) b e = cc
    receives ev to left free Met.apart b e = cc
