-- A verdict with its line, piece by piece.
use Rattle.std.proofs.Common.{◌≡◌, ℕ, [], ◌∷◌, ◌++◌, append_assoc, append-nil, refl}
use Rattle.text.specs.Decimal.{decimal}
use Rattle.text.specs.Text.{codes, line_end}
use Rattle.labels.specs.Verdict.{verdict_of}

pub with_line :
    (number line : ℕ) →
    verdict_of (number ∷ line ∷ []) ≡ codes "refused " ++ decimal number ++ codes " " ++ decimal line ++ line_end
unfolding verdict_of decimal
with_line number line = simp (append_assoc, append-nil) refl
