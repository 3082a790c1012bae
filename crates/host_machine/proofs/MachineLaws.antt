-- What a function answers to a record, from what it calls.
use mathlib.Core.Path.{◌≡◌}
use mathlib.Core.Bool.{true}
use mathlib.Core.List.{List, [], ◌∷◌}
use Prim.Native.Nat.{ℕ}
use lib.ListN.{length}
use borrow.Author.Tests.{eq-eqb}
use Rattle.answer_number.specs.declared.Numbered.{Numbered}
use Rattle.answer_number.specs.Numbered.{numbered}
use Rattle.nanocore.specs.declared.machine.Machine.{Machine}
use Rattle.nanocore.specs.Load.{Loading, load_of}
use Rattle.nanocore.specs.Step.{Answered, Situation, situated}
use Rattle.nanocore.specs.Transfer.{Transferring, transfer_of}
use Rattle.record.specs.Record.{is_record, machine_of, record_of}
use Rattle.host_machine.specs.Machine.{kept, load_from, loaded, move_by, moved, transfer_from}

module _ (bytes : List ℕ) {m : Machine} {n : Numbered} {b : List ℕ} (is : is_record bytes ≡ true) (read : m ≡ machine_of bytes) where
  pub load_crosses :
      (values program : List ℕ) (start : ℕ) {l : Loading} {k : ℕ} {v : List ℕ} → l ≡ load_of m program start → n ≡ numbered l.answer → k ≡ n.number →
      v ≡ n.first ∷ n.second ∷ [] → b ≡ record_of l.machine → loaded k v b ≡ load_from bytes program start values
  load_crosses values program start answered number told listed written = rw (is, told, listed, number, written, answered, read)

  pub move_crosses :
      (values : List ℕ) (answers : Situation → Answered) (place : ℕ) (output : List ℕ) (out : ℕ) {r : Answered} {k : ℕ} {v : List ℕ} →
      r ≡ answers (situated m place output out) → n ≡ numbered r.answer → k ≡ n.number → v ≡ n.first ∷ n.second ∷ [] →
      b ≡ record_of r.after.machine →
      moved k v b r.after.place r.after.output r.after.written ≡ move_by answers bytes place output out values
  move_crosses values answers place output out answered number told listed written =
      rw (is, told, listed, number, written, answered, read)

  pub transfer_crosses :
      (image marks : List ℕ) → length image ≡ 256 → length marks ≡ 256 → {t : Transferring} → t ≡ transfer_of m image marks →
      n ≡ numbered t.answer → b ≡ record_of t.machine → kept n.number b ≡ transfer_from bytes image marks
  transfer_crosses image marks long marked answered number written =
      rw (eq-eqb (length image) 256 long, eq-eqb (length marks) 256 marked, is, number, written, answered, read)
