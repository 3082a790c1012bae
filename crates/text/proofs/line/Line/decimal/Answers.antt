-- A turn moves the last digit of what is left before those that stand; at the end nothing is left.
use Rattle.std.proofs.Common.{◌≡◌, refl, sym, ◌∙◌, ap, ◌-◌, take, drop, arith, length-set, length-drop}
use Rattle.std.proofs.Math.Seq.{take_all}
use Rattle.text.specs.Lines.{appended}
use Rattle.text.proofs.DecimalLaws.{digits_before, decimal_before, digits_none, digits_turn, room_less}
use Rattle.text.proofs.line.Line.decimal.Goals as goal

pub loop-rest-init : goal.loop-rest-init
loop-rest-init c = (omega arith, omega arith, refl, rw c.digit.ensures (sym (decimal_before c.args.number)))

pub loop-rest-preserved : goal.loop-rest-preserved
loop-rest-preserved c =
    let l = c.loop-rest in
    let room = room_less l.at l.rest c.loop-rest-test.true l.invariant.1 in
    let turn = digits_turn l.digits l.at l.rest room.0 (omega arith) (λ e. omega arith) in
    (omega arith, room.1, simp length-set l.invariant.2, rw c.digit-in-loop-rest.ensures (turn ∙ l.invariant.3))

pub returns : goal.returns
returns c =
    let l = c.loop-rest in
    let digits = drop l.at l.digits in
    let none : l.rest ≡ 0 = omega arith in
    let over : digits_before l.at l.rest digits ≡ digits =
    ap (λ n. digits_before l.at n digits) none ∙ digits_none l.at digits
    in
    let all : take (20 - l.at) digits ≡ digits = take_all (20 - l.at) digits (omega (arith, length-drop l.at l.digits, l.invariant.2)) in
    c.text.ensures ∙ ap (appended c.args.self) (all ∙ sym over ∙ l.invariant.3)
