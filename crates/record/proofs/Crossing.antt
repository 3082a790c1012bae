-- Writing a machine and reading it back gives it again, and one machine has one record.
use mathlib.Core.Path.{◌≡◌, refl, sym, ◌∙◌, ap}
use mathlib.Core.Bool.{Bool, true, false, and-eq-true_iff}
use mathlib.Core.List.{List, ◌++◌}
use Prim.Native.Nat.{ℕ, ◌+◌, ◌≤◌, ◌%◌}
use native.Mathlib.Omega.{arith}
use lib.Dec.{eqb}
use lib.ListN.{length, take, drop, length-drop, take-append-drop}
use lib.Seq.{take_at, drop_at, take_all, drop-drop}
use borrow.Author.Tests.{eqb-true, eq-eqb}
use Rattle.byte.specs.Flags.{bit}
use Rattle.fields.specs.Apart.{alike}
use Rattle.fields.specs.Lay.{laid}
use Rattle.fields.specs.Read.{byte_at, stretch}
use Rattle.fields.proofs.ApartLaws.{alike_front, alike_taken}
use Rattle.fields.proofs.ReadLaws.{stretch_part}
use Rattle.nanocore.specs.declared.machine.Machine.{Machine}
use Rattle.record.specs.Accepted.{Accepted}
use Rattle.record.specs.Four.{four, four_at}
use Rattle.record.specs.Held.{Held}
use Rattle.record.specs.Record.{head_of, is_record, machine_of, record_of}
use Rattle.record.proofs.RecordLaws.{laid_record, length_record}

bit_read : (b : Bool) → eqb (bit b) 1 ≡ b
bit_read true = refl
bit_read false = refl

bit_most : (b : Bool) → bit b ≤ 1
bit_most true = omega arith
bit_most false = omega arith

-- the four bytes of a number of sixteen bits
four_most : (n : ℕ) → n ≤ 65535 → four_at (four n) 0 ≤ 65535
four_most n h = omega arith

module _ (m : Machine) (held : Held m) where
  long : length (record_of m) ≡ 296
  long = length_record m held.registers held.memory

  registers_read : stretch (record_of m) 24 16 ≡ m.registers
  unfolding record_of
  registers_read =
      stretch_part (record_of m) 24 16 (omega (arith, long)) ∙ take_at m.registers m.memory 16 held.registers

  memory_read : stretch (record_of m) 40 256 ≡ m.memory
  unfolding record_of
  memory_read =
      stretch_part (record_of m) 40 256 (omega (arith, long))
      ∙ ap (take 256) (drop_at m.registers m.memory 16 held.registers)
      ∙ take_all 256 m.memory (omega (arith, held.memory))

  count_read : four_at (record_of m) 8 % 65536 ≡ m.count
  unfolding record_of
  count_read = let most = held.count in omega arith

  limit_read : four_at (record_of m) 12 % 65536 ≡ m.limit
  unfolding record_of
  limit_read = let most = held.limit in omega arith

  pub written_read : machine_of (record_of m) ≡ m
  unfolding machine_of record_of
  written_read = rw (registers_read, memory_read, count_read, limit_read, bit_read m.halted)

  pub written_record : is_record (record_of m) ≡ true
  unfolding is_record record_of
  written_record =
      let known : alike (head_of (machine_of (record_of m))) (record_of m) ≡ 24 =
      ap (λ n. alike (head_of n) (record_of m)) written_read ∙ alike_front (head_of m) (m.registers ++ m.memory)
      in
      (and-eq-true_iff
      (eqb (length (record_of m)) 296)
      (eqb (alike (head_of (machine_of (record_of m))) (record_of m)) 24)
      ).1
      (eq-eqb (length (record_of m)) 296 long, eq-eqb _ 24 known)

  -- what the code lays, part after part
  pub parts_laid :
      (start one two three head : List ℕ) → length start ≡ 296 → head ≡ head_of m → one ≡ laid start 0 head →
      two ≡ laid one 24 m.registers → three ≡ laid two 40 m.memory → three ≡ record_of m
  parts_laid start one two three head size first second third fourth =
      fourth
      ∙ ap (λ b. laid b 40 m.memory) (third ∙ ap (λ b. laid b 24 m.registers) (second ∙ ap (laid start 0) first))
      ∙ laid_record m start held.registers held.memory size

module _ (bytes : List ℕ) (is : is_record bytes ≡ true) where
  tested : (eqb (length bytes) 296 ≡ true) × (eqb (alike (head_of (machine_of bytes)) bytes) 24 ≡ true)
  unfolding is_record
  tested = (and-eq-true_iff (eqb (length bytes) 296) (eqb (alike (head_of (machine_of bytes)) bytes) 24)).0 is

  pub record_long : length bytes ≡ 296
  record_long = eqb-true (length bytes) 296 tested.0

  head_read : head_of (machine_of bytes) ≡ take 24 bytes
  head_read =
      alike_taken (head_of (machine_of bytes)) bytes (eqb-true (alike (head_of (machine_of bytes)) bytes) 24 tested.1)

  rest_read : (machine_of bytes).registers ++ (machine_of bytes).memory ≡ drop 24 bytes
  unfolding machine_of
  rest_read =
      let first : 24 + 16 ≤ length bytes = omega (arith, record_long) in
      let second : 40 + 256 ≤ length bytes = omega (arith, record_long) in
      let left : length (drop 40 bytes) ≤ 256 = rw (length-drop 40 bytes, record_long) (omega arith) in
      ap (λ r. r ++ stretch bytes 40 256) (stretch_part bytes 24 16 first)
      ∙ ap (λ r. take 16 (drop 24 bytes) ++ r)
      (stretch_part bytes 40 256 second ∙ take_all 256 (drop 40 bytes) left ∙ sym (drop-drop 16 24 bytes))
      ∙ take-append-drop 16 (drop 24 bytes)

  pub read_written : record_of (machine_of bytes) ≡ bytes
  unfolding record_of
  read_written =
      ap (λ r. head_of (machine_of bytes) ++ r) rest_read
      ∙ ap (λ h. h ++ drop 24 bytes) head_read
      ∙ take-append-drop 24 bytes

  -- what is told of the record that was written is told of the bytes
  told : (f : List ℕ → ℕ) → f bytes ≡ f (record_of (machine_of bytes))
  told f = ap f (sym read_written)

  pub accepted : Accepted bytes
  unfolding record_of machine_of
  accepted =
      record {
        long = record_long;
        version = told (λ b. byte_at b 0);
        set = told (λ b. byte_at b 1);
        halted = rw (told (λ b. byte_at b 5)) (bit_most (machine_of bytes).halted);
        zero6 = told (λ b. byte_at b 6);
        zero7 = told (λ b. byte_at b 7);
        count = rw (told (λ b. four_at b 8)) (four_most (machine_of bytes).count (omega arith));
        limit = rw (told (λ b. four_at b 12)) (four_most (machine_of bytes).limit (omega arith));
        sum = told (λ b. four_at b 16);
        zero20 = told (λ b. four_at b 20);
      }

-- one machine has one record
pub one_record :
    (a b : List ℕ) → is_record a ≡ true → is_record b ≡ true → machine_of a ≡ machine_of b → a ≡ b
one_record a b ra rb same = sym (read_written a ra) ∙ ap record_of same ∙ read_written b rb
