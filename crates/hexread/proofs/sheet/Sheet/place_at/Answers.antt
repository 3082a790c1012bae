-- The tests are the definition's, in its order; where they pass, each stretch comes back filled.
use Rattle.std.proofs.Common.{sym, ◌∙◌, arith, rules}
use Rattle.std.proofs.lemmas.Bool.Decides.{nat_tests}
use Rattle.hexread.proofs.PlaceLaws.{none_held, past_end, set_twice, newly_set}
use Rattle.hexread.proofs.sheet.Sheet.place_at.Goals as goal

pub returns-then-is_empty : goal.returns-then-is_empty
returns-then-is_empty c =
    let args = c.args in
    none_held args.number args.self.now.image args.self.now.marks args.address args.held.now (grind (arith, nat_tests))

pub returns-then-end-gt256 : goal.returns-then-end-gt256
returns-then-end-gt256 c =
    let args = c.args in
    past_end args.number args.self.now.image args.self.now.marks args.address args.held.now (grind (arith, nat_tests)) (omega arith)

pub returns-then-some : goal.returns-then-some
returns-then-some c =
    let args = c.args in
    set_twice args.number args.self.now.image args.self.now.marks args.address args.held.now (grind (arith, nat_tests)) (omega arith)
    (sym c.some.ensures ∙ c.if-some.true)

pub returns : goal.returns
returns c =
    let args = c.args in
    newly_set args.number args.self.now.image args.self.now.marks args.address args.held.now (grind (arith, nat_tests)) (omega arith)
    (search rules) (search rules) (sym c.some.ensures ∙ c.if-some.false) c.copy_from_slice.ensures.after (c.fill.ensures.after (λ y e. e))
