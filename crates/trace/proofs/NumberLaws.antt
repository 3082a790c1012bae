-- A look's number and values tell the look, so what its promise says of an outcome leaves room for one outcome only.
use mathlib.Core.Path.{◌≡◌, refl, sym, ap}
use mathlib.Core.List.{List}
use Prim.Native.Nat.{ℕ}
use Rattle.steps.proofs.NumberLaws.{run_number_injective}
use Rattle.std.specs.Prelude.{Option, Some, None, Result}
use Rattle.nanocore.specs.declared.answer.Outcome.{Outcome}
use Rattle.nanocore.specs.declared.answer.RunRefusal.{RunRefusal}
use Rattle.trace.specs.Look.{looking, look_number}
use Rattle.trace.proofs.LookLaws.{answered}

pub look_number_injective : (a b : Option (Result Unit RunRefusal)) → look_number a ≡ look_number b → a ≡ b
look_number_injective None None e = refl
look_number_injective None (Some b) e = absurd (answered b (sym e))
look_number_injective (Some a) None e = absurd (answered a e)
look_number_injective (Some a) (Some b) e = ap Some (run_number_injective a b e)

-- two outcomes, with the bytes that they leave in the buffer, that the promise of look allows are one
pub look_one : (r q : Outcome (Option (Result Unit RunRefusal))) (out over : List ℕ) → looking r out ≡ looking q over → (r ≡ q) × (out ≡ over)
look_one r q out over e =
    let answer : r.answer ≡ q.answer = look_number_injective r.answer q.answer (ap (λ x. x.answer) e) in (
      λ i.
          record {
            answer = answer i;
            machine = (e i).after.machine;
            place = (e i).after.place;
            written = (e i).after.written;
          },
      ap (λ x. x.after.output) e,
    )
