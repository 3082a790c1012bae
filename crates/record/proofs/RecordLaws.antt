-- Laws of the record.
use mathlib.Core.Path.{◌≡◌, refl, ◌∙◌, ap, sym}
use mathlib.Core.List.{List, ◌++◌, append_assoc, append-nil}
use Prim.Native.Nat.{ℕ, ◌≤◌}
use native.Mathlib.Omega.{arith}
use lib.ListN.{length, length-append, drop_of_length-le}
use Rattle.fields.specs.Lay.{laid}
use Rattle.fields.proofs.LaidLaws.{laid_next, laid_whole}
use Rattle.nanocore.specs.declared.machine.Machine.{Machine}
use Rattle.record.specs.Record.{head_of, record_of}

pub length_record : (m : Machine) → length m.registers ≡ 16 → length m.memory ≡ 256 → length (record_of m) ≡ 296
unfolding record_of
length_record m rs ms =
    rw (length-append (head_of m) (m.registers ++ m.memory), length-append m.registers m.memory, rs, ms)

-- the three parts, laid one after the other, are the record
pub laid_record :
    (m : Machine) (bytes : List ℕ) → length m.registers ≡ 16 → length m.memory ≡ 256 → length bytes ≡ 296 →
    laid (laid (laid bytes 0 (head_of m)) 24 m.registers) 40 m.memory ≡ record_of m
unfolding record_of
laid_record m bytes rs ms long =
    let up_to : length (head_of m ++ m.registers) ≡ 40 = rw (length-append (head_of m) m.registers, rs) in
    let whole : length (record_of m) ≡ 296 = length_record m rs ms in
    let past : length bytes ≤ length (record_of m) = omega arith in
    ap (λ b. laid b 40 m.memory) (laid_next {n = 24} bytes 0 (head_of m) m.registers refl)
    ∙ laid_next {n = 40} bytes 0 (head_of m ++ m.registers) m.memory (sym up_to)
    ∙ ap (laid bytes 0) (append_assoc (head_of m) m.registers m.memory)
    ∙ laid_whole bytes (record_of m) (omega arith)
    ∙ ap (λ b. record_of m ++ b) (drop_of_length-le bytes past)
    ∙ append-nil (record_of m)
