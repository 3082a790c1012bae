-- What is said and counted of a rule is what is said of its places, joined and summed.
use mathlib.Core.Path.{◌≡◌, refl, sym, ◌∙◌, ap}
use mathlib.Core.Bool.{cond}
use mathlib.Core.List.{List, [], ◌∷◌, ◌++◌, append_assoc}
use Prim.Native.Nat.{ℕ, zero, suc, ◌+◌, ◌-◌, ◌≤◌, ◌<◌}
use native.Mathlib.Omega.{arith}
use lib.ListN.{length, length-append, drop}
use Rattle.front.specs.Front.{front_of, size_of}
use Rattle.front.specs.Walk.{walked}
use Rattle.front.proofs.WalkLaws.{walk_none, walk_turn}
use Rattle.finding.specs.Found.{Found, found_at, plain_in}
use Rattle.finding.specs.Left.{findings_of}
use Rattle.finding.specs.Line.{line_of, lines_of}
use Rattle.finding.specs.Standing.{Said, said_of}
use Rattle.finding.proofs.RoomLaws.{found_holds}
use Rattle.text.specs.declared.line.Line.{Line}
use Rattle.text.specs.Lines.{lined}
use Rattle.spelling.specs.Check.{found}

-- what is said and counted of both parts of a list
pub lines_append : (a b : List Found) → lines_of (a ++ b) ≡ lines_of a ++ lines_of b
lines_append [] b = refl
lines_append (f ∷ a) b =
    let line = cond f.is_plain [] (line_of f.address f.bytes f.plainly) in
    ap (λ rest. line ++ rest) (lines_append a b) ∙ sym (append_assoc line (lines_of a) (lines_of b))

plain_append : (a b : List Found) → plain_in (a ++ b) ≡ plain_in a + plain_in b
plain_append [] b = omega arith
plain_append (f ∷ a) b = omega (arith, plain_append a b)

-- what is said of all places of a rule, joined and summed
abbrev pub text_all : List Said → List ℕ
text_all [] = []
text_all (s ∷ ss) = s.text ++ text_all ss

abbrev pub instructions_all : List Said → ℕ
instructions_all [] = 0
instructions_all (s ∷ ss) = s.instructions + instructions_all ss

abbrev pub plain_all : List Said → ℕ
plain_all [] = 0
plain_all (s ∷ ss) = s.plain + plain_all ss

-- is what is said of what the walk comes to
record Walked (ss : List Said) (fs : List Found) : Type 0 where
  text : text_all ss ≡ lines_of fs
  instructions : instructions_all ss ≡ length fs
  plain : plain_all ss ≡ plain_in fs

walked_all :
    (passed address : ℕ) (bytes : List ℕ) →
    Walked (walked (λ a bs. said_of (found_at a bs) ∷ []) passed address bytes) (walked found_at passed address bytes)
unfolding walked
walked_all passed address [] = record { text = refl; instructions = refl; plain = refl }
walked_all (suc passed) address (b ∷ bs) = walked_all passed (address + 1) bs
walked_all zero address (b ∷ bs) =
    let here = found_at address (b ∷ bs) in
    let passed = size_of (front_of (b ∷ bs)) - 1 in
    let left = walked found_at passed (address + 1) bs in
    let rest = walked_all passed (address + 1) bs in
    record {
      text = ap (λ t. lines_of here ++ t) rest.text ∙ sym (lines_append here left);
      instructions = ap (λ n. length here + n) rest.instructions ∙ sym (length-append here left);
      plain = ap (λ n. plain_in here + n) rest.plain ∙ sym (plain_append here left);
    }

pub text_found : (rule : List ℕ) → text_all (findings_of rule 0) ≡ lines_of (found rule)
text_found rule = (walked_all 0 0 rule).text

pub instructions_found : (rule : List ℕ) → instructions_all (findings_of rule 0) ≡ length (found rule)
instructions_found rule = (walked_all 0 0 rule).instructions

pub plain_found : (rule : List ℕ) → plain_all (findings_of rule 0) ≡ plain_in (found rule)
plain_found rule = (walked_all 0 0 rule).plain

-- Laws that stand for themselves: the instructions of a rule from a place on.
abbrev pub rest : List ℕ → ℕ → List Found
rest rule at = walked found_at 0 at (drop at rule)

pub rest_none : (rule : List ℕ) (at : ℕ) → length rule ≤ at → rest rule at ≡ []
rest_none rule at = walk_none found_at rule at at

-- what stands at a place
abbrev pub here : List ℕ → ℕ → List Found
here rule at = found_at at (drop at rule)

-- what is said and counted there, and behind it what is left from the next place on
module _ (rule : List ℕ) (at : ℕ) (h : at < length rule) {next : ℕ} (e : next ≡ at + size_of (front_of (drop at rule))) where
  turn : rest rule at ≡ here rule at ++ rest rule next
  turn = rw e (walk_turn found_at rule at at h)

  pub lines_turn : lines_of (rest rule at) ≡ lines_of (here rule at) ++ lines_of (rest rule next)
  lines_turn = ap lines_of turn ∙ lines_append (here rule at) (rest rule next)

  pub count_turn : length (rest rule at) ≡ length (here rule at) + length (rest rule next)
  count_turn = ap length turn ∙ length-append (here rule at) (rest rule next)

  pub plain_turn : plain_in (rest rule at) ≡ plain_in (here rule at) + plain_in (rest rule next)
  plain_turn = ap plain_in turn ∙ plain_append (here rule at) (rest rule next)

  -- a line more is said; what is left is shorter by it
  pub said_on :
      (said : ℕ) {line : Line} → line ≡ lined (lines_of (here rule at)) →
      said + length (lines_of (rest rule at)) ≡ length (lines_of (found rule)) →
      said + line.length + length (lines_of (rest rule next)) ≡ length (lines_of (found rule))
  said_on said line all =
      omega (arith, simp length-append at (ap length lines_turn), (found_holds at (drop at rule) line).size, all)
