-- Before each turn, what is left of the text tells what the whole text does.
use Rattle.digits.specs.Unhex.{unhexed}
use Rattle.digits.proofs.UnhexLaws.{Reading}
use Rattle.digits.proofs.unhex.unhex.Given as goal

abbrev pub invariant-loop-at : goal.invariant-loop-at
invariant-loop-at l = Reading l.text (unhexed l.text l.initial.buffer) l.buffer l.count l.high l.at
