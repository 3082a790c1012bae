-- Each arm is what the law of its turn says, of the situation that the locals make.
use Rattle.std.proofs.Common.{◌≡◌, ◌+◌, ◌-◌, Ok, sym, ◌∙◌, ap, arith}
use borrow.Author.Tests.{ltb-true}
use Rattle.effect.specs.declared.Turn.TheVariants.{Done}
use Rattle.effect.specs.Numbers.{fate}
use Rattle.turn.proofs.Laws.{prints_room}
use Rattle.nanocore.proofs.TurnLaws.{turns_none, turns_refused, turns_halted, turns_done}
use Rattle.nanocore.proofs.turns.turns.Invariants.{here}
use Rattle.nanocore.proofs.turns.turns.Goals as goal

pub returns-in-Err : goal.returns-in-Err
returns-in-Err c =
    let at = c.loop in
    let s = here at.registers at.memory at.core at.tally at.output in
    rw c.ended.ensures
    (turns_refused c.args.input.now s (c.args.most - at.counter) at.invariant.1 (omega arith) c.turn.result c.turn.ensures _ c.in-Err.is)

pub returns-in-Ok-Halt : goal.returns-in-Ok-Halt
returns-in-Ok-Halt c =
    let at = c.loop in
    let s = here at.registers at.memory at.core at.tally at.output in
    rw c.ended-in-Ok-Halt.ensures
    (turns_halted c.args.input.now s (c.args.most - at.counter) at.invariant.1 (omega arith) c.turn.result c.turn.ensures (cc))

pub write_output-requires : goal.write_output-requires
write_output-requires c =
    let done : c.turn.result ≡ Ok (Done c.in-Ok-Done.effect) = cc in
    λ p. ltb-true _ _ (prints_room _ _ (sym c.turn.ensures ∙ ap fate done) p)

pub loop-preserved : goal.loop-preserved
loop-preserved c =
    let at = c.loop in
    let s = here at.registers at.memory at.core at.tally at.output in
    let left = c.args.most - at.counter in
    let next : left - 1 ≡ c.args.most - (at.counter + 1) = omega arith in (
      omega arith,
      rw (c.write_register.ensures, c.write_memory.ensures, c.write_output.ensures.0, c.write_output.ensures.1, ← next)
          (turns_done c.args.input.now s left at.invariant.1 (omega arith) c.turn.result c.turn.ensures c.in-Ok-Done.effect (cc) (omega arith)),
    )

pub returns : goal.returns
returns c =
    let at = c.loop in
    let s = here at.registers at.memory at.core at.tally at.output in
    rw c.ended-2.ensures
    (sym (turns_none c.args.input.now s (c.args.most - at.counter) (omega arith)) ∙ at.invariant.1)
