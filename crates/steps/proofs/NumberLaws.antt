-- An answer's number and values tell the answer, so what a promise says of an outcome leaves room for one outcome only.
use mathlib.Core.Path.{◌≡◌, refl, ap}
use mathlib.Core.Bool.{cond}
use mathlib.Core.List.{List}
use Prim.Native.Nat.{ℕ}
use Rattle.std.specs.Prelude.{Result, Ok, Err}
use lib.Dec.{eqb}
use lib.ListN.{get_or}
use Rattle.byte.proofs.Inverse.{undone}
use Rattle.effect.specs.declared.Fault.{Fault}
use Rattle.effect.specs.declared.Fault.TheVariants.{InvalidOpcode, StackFull, StackEmpty, DivisorZero, NoInput, NoRoom}
use Rattle.effect.specs.Numbers.{number_of, fault_number}
use Rattle.effect.proofs.Laws.{fault_of}
use Rattle.nanocore.specs.declared.answer.Completed.{Completed}
use Rattle.nanocore.specs.declared.answer.Completed.TheVariants.{Stepped, Halted}
use Rattle.nanocore.specs.declared.answer.Handed.{Handed}
use Rattle.nanocore.specs.declared.answer.NoImage.{NoImage}
use Rattle.nanocore.specs.declared.answer.Outcome.{Outcome}
use Rattle.nanocore.specs.declared.answer.RunRefusal.{RunRefusal}
use Rattle.nanocore.specs.declared.answer.RunRefusal.TheVariants.{LimitReached}
use Rattle.nanocore.specs.declared.answer.StepRefusal.{StepRefusal}
use Rattle.nanocore.specs.declared.answer.StepRefusal.TheVariants.{AlreadyHalted, CountFull}
use Rattle.nanocore.specs.declared.answer.TooLong.{TooLong}
use Rattle.nanocore.specs.Numbers.{
  step_number,
  run_number,
  load_number,
  transfer_number,
  stepping,
  running,
  loading,
  transferring,
}

-- the answer that has this number and these values
abbrev step_answer : List ℕ → Result Completed StepRefusal
step_answer l =
    cond (eqb (number_of l) 0) (Ok Stepped)
    (cond (eqb (number_of l) 1) (Ok Halted)
    (cond (eqb (number_of l) 2) (Err AlreadyHalted)
    (cond (eqb (number_of l) 9) (Err CountFull) (Err (StepRefusal.Fault (fault_of l))))))

step_answer_fault : (f : Fault) → step_answer (fault_number f) ≡ Err (StepRefusal.Fault f)
step_answer_fault (InvalidOpcode opcode pc) = refl
step_answer_fault (StackFull sp) = refl
step_answer_fault (StackEmpty sp) = refl
step_answer_fault (DivisorZero opcode) = refl
step_answer_fault NoInput = refl
step_answer_fault NoRoom = refl

step_answer_number : (a : Result Completed StepRefusal) → step_answer (step_number a) ≡ a
step_answer_number (Ok Stepped) = refl
step_answer_number (Ok Halted) = refl
step_answer_number (Err AlreadyHalted) = refl
step_answer_number (Err (StepRefusal.Fault f)) = step_answer_fault f
step_answer_number (Err CountFull) = refl

abbrev run_answer : List ℕ → Result Unit RunRefusal
run_answer l =
    cond (eqb (number_of l) 1) (Ok tt)
    (cond (eqb (number_of l) 10) (Err (LimitReached (get_or l 1 0))) (Err (RunRefusal.Fault (fault_of l))))

run_answer_fault : (f : Fault) → run_answer (fault_number f) ≡ Err (RunRefusal.Fault f)
run_answer_fault (InvalidOpcode opcode pc) = refl
run_answer_fault (StackFull sp) = refl
run_answer_fault (StackEmpty sp) = refl
run_answer_fault (DivisorZero opcode) = refl
run_answer_fault NoInput = refl
run_answer_fault NoRoom = refl

run_answer_number : (a : Result Unit RunRefusal) → run_answer (run_number a) ≡ a
run_answer_number (Ok halted) = refl
run_answer_number (Err (RunRefusal.Fault f)) = run_answer_fault f
run_answer_number (Err (LimitReached limit)) = refl

abbrev load_answer : List ℕ → Result Unit TooLong
load_answer l = cond (eqb (number_of l) 0) (Ok tt) (Err record { length = get_or l 1 0; start = get_or l 2 0 })

load_answer_number : (a : Result Unit TooLong) → load_answer (load_number a) ≡ a
load_answer_number (Ok loaded) = refl
load_answer_number (Err e) = refl

abbrev transfer_answer : List ℕ → Result Unit NoImage
transfer_answer l = cond (eqb (number_of l) 0) (Ok tt) (Err record {})

transfer_answer_number : (a : Result Unit NoImage) → transfer_answer (transfer_number a) ≡ a
transfer_answer_number (Ok transferred) = refl
transfer_answer_number (Err e) = refl

pub step_number_injective : (a b : Result Completed StepRefusal) → step_number a ≡ step_number b → a ≡ b
step_number_injective = undone step_number step_answer step_answer_number

pub run_number_injective : (a b : Result Unit RunRefusal) → run_number a ≡ run_number b → a ≡ b
run_number_injective = undone run_number run_answer run_answer_number

pub load_number_injective : (a b : Result Unit TooLong) → load_number a ≡ load_number b → a ≡ b
load_number_injective = undone load_number load_answer load_answer_number

pub transfer_number_injective : (a b : Result Unit NoImage) → transfer_number a ≡ transfer_number b → a ≡ b
transfer_number_injective = undone transfer_number transfer_answer transfer_answer_number

-- two outcomes, with the bytes that they leave in the buffer, that the promise of step, of run, of load or of transfer allows are one
pub step_one :
    (r q : Outcome (Result Completed StepRefusal)) (out over : List ℕ) → stepping r out ≡ stepping q over → (r ≡ q) × (out ≡ over)
step_one r q out over e =
    let answer : r.answer ≡ q.answer = step_number_injective r.answer q.answer (ap (λ x. x.answer) e) in (
      λ i.
          record {
            answer = answer i;
            machine = (e i).after.machine;
            place = (e i).after.place;
            written = (e i).after.written;
          },
      ap (λ x. x.after.output) e,
    )

pub run_one :
    (r q : Outcome (Result Unit RunRefusal)) (out over : List ℕ) → running r out ≡ running q over → (r ≡ q) × (out ≡ over)
run_one r q out over e =
    let answer : r.answer ≡ q.answer = run_number_injective r.answer q.answer (ap (λ x. x.answer) e) in (
      λ i.
          record {
            answer = answer i;
            machine = (e i).after.machine;
            place = (e i).after.place;
            written = (e i).after.written;
          },
      ap (λ x. x.after.output) e,
    )

pub load_one : (r q : Handed (Result Unit TooLong)) → loading r ≡ loading q → r ≡ q
load_one r q e =
    let answer : r.answer ≡ q.answer = load_number_injective r.answer q.answer (ap (λ x. x.answer) e) in
    λ i. record { answer = answer i; machine = (e i).machine }

pub transfer_one : (r q : Handed (Result Unit NoImage)) → transferring r ≡ transferring q → r ≡ q
transfer_one r q e =
    let answer : r.answer ≡ q.answer = transfer_number_injective r.answer q.answer (ap (λ x. x.answer) e) in
    λ i. record { answer = answer i; machine = (e i).machine }
