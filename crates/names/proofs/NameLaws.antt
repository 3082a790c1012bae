-- Laws of the names that the crates above cite: a name written is read back as its operation, and a text that is read as an
-- operation is that operation's name, byte for byte.
use mathlib.Core.Path.{◌≡◌, refl, sym, ◌∙◌, ap}
use mathlib.Core.Bool.{Bool, true, false, cond, ◌&&◌, and-eq-true_iff}
use mathlib.Core.List.{List, [], ◌∷◌}
use Prim.Native.Nat.{ℕ, zero, suc, ◌+◌, ◌≤◌}
use native.Mathlib.Numerals.{add-one}
use lib.Dec.{eqb, leb}
use lib.ListN.{length, drop}
use borrow.Author.Tests.{eqb-true, eq-eqb, leb-true}
use Rattle.op.specs.declared.operation.Op.{Op}
use Rattle.std.specs.Prelude.{Option, Some, None}
use Rattle.std.specs.Str.{bytes_eq}
use Rattle.op.specs.Operations.{ops, op_at, decoded}
use Rattle.names.specs.Names.{name_of, same_text, name_in, named}
use Rattle.op.proofs.Laws.{agree}

-- the library's comparison of two texts is the definition's
pub bytes_same_text : (s t : List ℕ) → bytes_eq s t ≡ same_text s t
bytes_same_text [] [] = refl
bytes_same_text [] (b ∷ t) = refl
bytes_same_text (a ∷ s) [] = refl
bytes_same_text (a ∷ s) (b ∷ t) = ap (λ r. eqb a b && r) (bytes_same_text s t)

pub same_text_eq : (s t : List ℕ) → same_text s t ≡ true → s ≡ t
same_text_eq [] [] e = refl
same_text_eq [] (b ∷ t) e = cc
same_text_eq (a ∷ s) [] e = cc
same_text_eq (a ∷ s) (b ∷ t) e =
    let parts = (and-eq-true_iff (eqb a b) (same_text s t)).0 e in
    cc (eqb-true a b parts.0, same_text_eq s t parts.1)

-- the operations from the place k on: that of the byte k and those behind it, or none where the byte has none
from_place : (os : List Op) (k : ℕ) (o : Op) → op_at os k ≡ Some o → drop k os ≡ o ∷ drop (suc k) os
from_place [] k o e = cc
from_place (p ∷ os) zero o e = cc
from_place (p ∷ os) (suc k) o e = from_place os k o e

none_from : (os : List Op) (k : ℕ) → op_at os k ≡ None → drop k os ≡ []
none_from [] zero e = refl
none_from [] (suc k) e = refl
none_from (p ∷ os) zero e = cc
none_from (p ∷ os) (suc k) e = none_from os k e

-- a search through the list at its place k: found there, or looked for from the next place on, or ended
pub hit :
    (t : List ℕ) (k : ℕ) (o : Op) → decoded k ≡ Some o → same_text t (name_of o) ≡ true →
    name_in (drop k ops) t ≡ Some o
hit t k o at e = rw (from_place ops k o at, e)

pub miss :
    (t : List ℕ) (k : ℕ) (o : Op) → decoded k ≡ Some o → same_text t (name_of o) ≡ false →
    name_in (drop k ops) t ≡ name_in (drop (k + 1) ops) t
miss t k o at e = rw (add-one, from_place ops k o at, e)

pub ended : (t : List ℕ) (k : ℕ) → decoded k ≡ None → name_in (drop k ops) t ≡ None
ended t k at = rw (none_from ops k at)

-- a name has five letters at most
pub name_short : (o : Op) → length (name_of o) ≤ 5
name_short o = leb-true (length (name_of o)) 5 (agree (λ o. leb (length (name_of o)) 5) (λ o. true) refl o)

-- a name is read back as the operation that it was written for
pub named_name : (o : Op) → named (name_of o) ≡ Some o
unfolding named
named_name = agree (λ o. named (name_of o)) Some refl

-- so names tell the operations apart
pub name_injective : (o p : Op) → name_of o ≡ name_of p → o ≡ p
name_injective o p e = cc (named_name o, named_name p, ap named e)

-- whichever of two places the operation was found at, the text is its name
picked :
    (b : Bool) (t : List ℕ) (p o : Op) (rest : Option Op) → (b ≡ true → t ≡ name_of p) → (rest ≡ Some o → t ≡ name_of o) →
    cond b (Some p) rest ≡ Some o → t ≡ name_of o
picked true t p o rest here later e = let same : p ≡ o = cc in here refl ∙ ap name_of same
picked false t p o rest here later e = later e

in_exact : (os : List Op) (t : List ℕ) (o : Op) → name_in os t ≡ Some o → t ≡ name_of o
in_exact [] t o e = cc
in_exact (p ∷ os) t o e =
    picked (same_text t (name_of p)) t p o (name_in os t) (same_text_eq t (name_of p)) (in_exact os t o) e

-- a text that is read as an operation is its name, exactly
pub named_exact : (t : List ℕ) (o : Op) → named t ≡ Some o → t ≡ name_of o
unfolding named
named_exact t o e = in_exact ops t o e

-- Laws that stand for themselves: a test that holds exactly where two texts are equal is the definition's.
pub same_text_refl : (s : List ℕ) → same_text s s ≡ true
same_text_refl [] = refl
same_text_refl (a ∷ s) = rw (eq-eqb a a refl) (same_text_refl s)

pub same_text_lem : (r : Bool) (s t : List ℕ) → (r ≡ true → s ≡ t) → (s ≡ t → r ≡ true) → r ≡ same_text s t
same_text_lem true s t f g = sym (rw (f refl) (same_text_refl t))
same_text_lem false s t f g = by (same_text s t) refl
  where
    by : (b : Bool) → same_text s t ≡ b → false ≡ b
    by true e = g (same_text_eq s t e)
    by false e = refl
