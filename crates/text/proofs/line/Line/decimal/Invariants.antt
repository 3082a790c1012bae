-- The digits that stand, with those of what is left of the number before them, are the number's; there is room for what is left.
use Rattle.std.proofs.Common.{◌≡◌, ◌<◌, ◌^◌, length, drop}
use Rattle.text.specs.Decimal.{decimal}
use Rattle.text.proofs.DecimalLaws.{digits_before}
use Rattle.text.proofs.line.Line.decimal.Given as goal

abbrev pub invariant-loop-rest : goal.invariant-loop-rest
invariant-loop-rest l =
    (l.at < 20) × (l.rest < 10 ^ l.at) × (length l.digits ≡ 20) × (digits_before l.at l.rest (drop l.at l.digits) ≡ decimal l.number)

abbrev pub decreases-loop-rest : goal.decreases-loop-rest
decreases-loop-rest l = l.at
