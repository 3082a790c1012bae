-- Before each turn, what is left of the text tells what the whole text spells.
use Rattle.std.proofs.Common.{length}
use Rattle.hexline.proofs.SpellLaws.{Spelt}
use Rattle.hexline.proofs.spell.spell.Given as goal

abbrev pub invariant-loop-rest : goal.invariant-loop-rest
invariant-loop-rest l = Spelt l.text l.bytes l.count l.rest

abbrev pub decreases-loop-rest : goal.decreases-loop-rest
decreases-loop-rest l = length l.rest
