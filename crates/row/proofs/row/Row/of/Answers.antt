-- The slice is all that is left of the program, so what its bytes begin with is what stands at the place.
use Rattle.std.proofs.Common.{◌≡◌, ◌+◌, ◌-◌, ◌∙◌, ap, length, take, drop, arith, length-drop}
use Rattle.std.proofs.Math.Seq.{take_all}
use Rattle.text.specs.Lines.{lined}
use Rattle.front.specs.Front.{front_of, size_of}
use Rattle.front.specs.Line.{line_at, line_of}
use Rattle.front.proofs.FrontLaws.{goes_on}
use Rattle.row.proofs.RoomLaws.{line_short, line_whole}
use Rattle.row.proofs.row.Row.of.Goals as goal

pub returns-clause-length_bound : goal.returns-clause-length_bound
returns-clause-length_bound c =
    let address = c.args.start + c.args.at in
    let slice = take (length c.args.program.now - c.args.at) (drop c.args.at c.args.program.now) in
    let line : c.line.result ≡ lined (line_at address slice) =
    c.line.ensures ∙ ap (λ f. lined (line_of address f slice)) c.of-front.ensures in
    let short = line_short address slice in
    omega (arith, (line_whole _ _ line).size)

pub returns-clause-next_in_bounds : goal.returns-clause-next_in_bounds
returns-clause-next_in_bounds c =
    let program = c.args.program.now in
    let at = c.args.at in
    let whole = take_all (length program - at) (drop at program) (omega (arith, length-drop at program)) in
    let size = c.size.ensures ∙ ap size_of (c.of-front.ensures ∙ ap front_of whole) in
    (goes_on program at (omega arith) _ (ap (λ n. at + n) size)).1
