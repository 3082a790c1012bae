-- A machine that crosses as its record. Bytes that are no machine of this build are answered 90, and nothing is changed.
use Rattle.std.specs.Prelude.{ℕ, cond, ◌&&◌, List, eqb, length}
use Rattle.nanocore.specs.Load.{Loading, load_of}
use Rattle.nanocore.specs.Machine.{fresh}
use Rattle.nanocore.specs.Run.{run_of}
use Rattle.nanocore.specs.Step.{Answered, Situation, situated, step_of}
use Rattle.nanocore.specs.Transfer.{Transferring, transfer_of}
use Rattle.record.specs.Record.{is_record, machine_of, record_of}
use Rattle.answer_number.specs.Numbered.{number_of, values_of}

-- no machine of this build
abbrev pub none : ℕ
none = 90

-- after fresh or a transfer: the number, and the record
pub record Kept : Type 0 where
  pub number : ℕ
  pub machine : List ℕ

abbrev pub kept : ℕ → List ℕ → Kept
kept number machine = record { number = number; machine = machine }

abbrev pub fresh_of : List ℕ → Kept
fresh_of bytes = cond (eqb (length bytes) 296) (kept 0 (record_of fresh)) (kept none bytes)

abbrev pub transfer_crossed : Transferring → Kept
transfer_crossed t = kept (number_of t.answer) (record_of t.machine)

-- "19: a lent image or its marks not 256 long", before 90: it "comes before every other and changes nothing"
abbrev pub transfer_from : (bytes image marks : List ℕ) → Kept
transfer_from bytes image marks =
    cond (eqb (length image) 256 && eqb (length marks) 256)
    (cond (is_record bytes) (transfer_crossed (transfer_of (machine_of bytes) image marks)) (kept none bytes))
    (kept 19 bytes)

-- after a load: the number with its values, and the record
pub record Loaded : Type 0 where
  pub number : ℕ
  pub values : List ℕ
  pub machine : List ℕ

abbrev pub loaded : ℕ → List ℕ → List ℕ → Loaded
loaded number values machine = record { number = number; values = values; machine = machine }

abbrev pub load_crossed : Loading → Loaded
load_crossed l = loaded (number_of l.answer) (values_of l.answer) (record_of l.machine)

abbrev pub load_from : (bytes program : List ℕ) (start : ℕ) (values : List ℕ) → Loaded
load_from bytes program start values =
    cond (is_record bytes) (load_crossed (load_of (machine_of bytes) program start)) (loaded none values bytes)

-- after a step or a run: the number with its values, the record, and what stands beside it
pub record Moved : Type 0 where
  pub number : ℕ
  pub values : List ℕ
  pub machine : List ℕ
  pub place : ℕ
  pub output : List ℕ
  pub written : ℕ

abbrev pub moved : ℕ → List ℕ → List ℕ → ℕ → List ℕ → ℕ → Moved
moved number values machine place output written =
    record {
      number = number;
      values = values;
      machine = machine;
      place = place;
      output = output;
      written = written;
    }

abbrev pub crossed : Answered → Moved
crossed r =
    moved
    (number_of r.answer)
    (values_of r.answer)
    (record_of r.after.machine)
    r.after.place
    r.after.output
    r.after.written

-- by what a machine in its situation answers
abbrev pub move_by :
    (Situation → Answered) → (bytes : List ℕ) (place : ℕ) (output : List ℕ) (written : ℕ) (values : List ℕ) → Moved
move_by answers bytes place output written values =
    cond (is_record bytes)
    (crossed (answers (situated (machine_of bytes) place output written)))
    (moved none values bytes place output written)

abbrev pub step_from :
    (bytes input : List ℕ) (place : ℕ) (output : List ℕ) (written : ℕ) (values : List ℕ) → Moved
step_from bytes input = move_by (step_of input) bytes

abbrev pub run_from :
    (bytes input : List ℕ) (place : ℕ) (output : List ℕ) (written : ℕ) (values : List ℕ) → Moved
run_from bytes input = move_by (run_of input) bytes
