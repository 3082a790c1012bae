-- What is said of a place tells what stands there.
use Rattle.std.proofs.Common.{◌≡◌, ℕ, refl, ap, arith}
use Rattle.finding.specs.declared.finding.Standing.{Standing}
use Rattle.finding.specs.declared.finding.Standing.TheVariants.{Alone, Plain, Unplain}
use Rattle.finding.specs.Standing.{instructions_in, line_in, plain_ones_in}

pub standing_one :
    (a b : Standing) → line_in a ≡ line_in b → instructions_in a ≡ instructions_in b →
    plain_ones_in a ≡ plain_ones_in b → a ≡ b
standing_one Alone Alone l i p = refl
standing_one Alone Plain l i p = absurd (omega arith)
standing_one Alone (Unplain b) l i p = absurd (omega arith)
standing_one Plain Alone l i p = absurd (omega arith)
standing_one Plain Plain l i p = refl
standing_one Plain (Unplain b) l i p = absurd (omega arith)
standing_one (Unplain a) Alone l i p = absurd (omega arith)
standing_one (Unplain a) Plain l i p = absurd (omega arith)
standing_one (Unplain a) (Unplain b) l i p = ap Unplain l
