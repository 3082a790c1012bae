-- The test of the whole table is computed once, and one law turns it into what each row says.
use mathlib.Core.Path.{◌≡◌, refl, ◌∙◌, ap}
use mathlib.Core.Bool.{Bool, true, and-eq-true_iff}
use mathlib.Core.List.Memᴰ
use mathlib.Core.List.{List, [], ◌∷◌, Memᴰ}
use mathlib.Core.Logic.{⊎_elim}
use Prim.Native.Nat.{ℕ}
use Rattle.byte.specs.Flags.{zn, with_carry}
use Rattle.effect.specs.Effects.{kept, loaded, flagged, jumped, pushed}
use Rattle.names.specs.Names.{named, same_text}
use Rattle.names.proofs.NameLaws.{same_text_eq}
use Rattle.instruction.specs.Decode.{decoded_of}
use Rattle.turn.specs.Meaning.{fate_of}
use Rattle.turn.specs.Turn.{turn_of}
use Rattle.nanocore.specs.Load.{load_of}
use Rattle.nanocore.specs.Run.{run_by}
use Rattle.nanocore.specs.Step.{step_of}
use Rattle.scan.specs.Class.{passes}
use Rattle.scan.specs.Scan.{first, last}
use Rattle.source.specs.Line.{lines_of, line_of}
use Rattle.source.specs.Words.{words_in}
use Rattle.source.specs.Meaning.{meaning_of}
use Rattle.table.specs.Table.{alike}
use Rattle.labels.specs.Pass.{labelled, turn, pass, mapping_of}
use Rattle.cases.specs.Cases.{Part, gives, Row, rows, started, said, held, answer_of, machine_of, every, fits, holds}

pub all_hold : every holds rows ≡ true
unfolding zn with_carry kept loaded flagged jumped pushed fate_of decoded_of turn_of step_of run_by load_of
    passes first last lines_of line_of words_in named meaning_of alike labelled turn pass mapping_of
all_hold = refl

-- what passes a test throughout a list passes it in each place
each : {A : Type 0} (f : A → Bool) (xs : List A) → every f xs ≡ true → (x : A) → Memᴰ x xs → f x ≡ true
each f [] e x m = absurd (Memᴰ.not-nil m)
each f (y ∷ ys) e x m =
    let both = (and-eq-true_iff (f y) (every f ys)).0 e in
    ⊎_elim (λ same. ap f same ∙ both.0) (each f ys both.1 x) (Memᴰ.cases_cons m)

-- what a row says: its answer, where that is told, and its parts afterwards
pub record Says (r : Row) : Type 0 where
  pub answer : (n : List ℕ) → r.answer ≡ gives n → answer_of r.deed (started r.start) ≡ n
  pub parts : (p : Part) → Memᴰ p r.after → held p (machine_of r.deed (started r.start)) ≡ said p

pub each_row : (r : Row) → Memᴰ r rows → Says r
each_row r m =
    let answer = fits r.answer (answer_of r.deed (started r.start)) in
    let left = machine_of r.deed (started r.start) in
    let part : Part → Bool = λ p. same_text (held p left) (said p) in
    let both = (and-eq-true_iff answer (every part r.after)).0 (each holds rows all_hold r m) in
    record {
      answer = λ n told. same_text_eq _ n (rw told at both.0);
      parts = λ p at. same_text_eq (held p left) (said p) (each part r.after both.1 p at);
    }
