-- Behind the digits so far, the number that the rest makes is the number of all.
use Rattle.std.proofs.Common.{◌≡◌, ◌≤◌, drop}
use Rattle.text.specs.Decimal.{value_from}
use Rattle.text.proofs.number.value.Given as goal

abbrev pub invariant-loop-c : goal.invariant-loop-c
invariant-loop-c l = (l.value ≤ 65535) × (value_from l.value (drop l.c-index l.text) ≡ value_from 0 l.text)
