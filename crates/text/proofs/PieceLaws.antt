-- A line of pieces: a beginning, names with their numbers, and the line's end. What they make together, and how long they are.
use mathlib.Core.Path.{◌≡◌, ◌∙◌}
use mathlib.Core.List.{List, [], ◌∷◌, ◌++◌}
use Prim.Native.Nat.{ℕ, suc, ◌+◌, ◌^◌, ◌≤◌, ◌<◌}
use native.Mathlib.Omega.{arith}
use lib.ListN.{length, length-append}
use Rattle.text.specs.declared.line.Line.{Line}
use Rattle.text.specs.Decimal.{decimal}
use Rattle.text.specs.Lines.{appended, empty_line, lined, named}
use Rattle.text.specs.Text.{line_end}
use Rattle.text.proofs.DecimalLaws.{few_digits}
use Rattle.text.proofs.LineLaws.{onto}

-- a beginning, two pieces behind it, and the line's end
pub closed :
    (a b c : List ℕ) {t u v r : Line} → t ≡ lined a → u ≡ appended t b → v ≡ appended u c → r ≡ appended v line_end →
    r ≡ lined (a ++ b ++ c ++ line_end)
closed a b c begun one two end =
    end ∙ onto empty_line (a ++ b ++ c) line_end (two ∙ onto empty_line (a ++ b) c (one ∙ onto empty_line a b begun))

pub ended_length : (a b c : List ℕ) → length (a ++ b ++ c ++ line_end) ≡ length a + length b + length c + 1
ended_length a b c = omega (arith, length-append (a ++ b ++ c) line_end, length-append (a ++ b) c, length-append a b)

-- a name and its number, with a space before each
pub named_few : (name : List ℕ) (k n : ℕ) → n < 10 ^ suc k → length (named name n) ≤ 3 + length name + k
named_few name k n h =
    omega (arith, length-append (name ++ (32 ∷ [])) (decimal n), length-append name (32 ∷ []), few_digits k n h)
