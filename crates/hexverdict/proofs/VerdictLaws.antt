-- No verdict is cut: with the values that the code's types hold, the text has room on a line.
use mathlib.Core.Path.{◌≡◌}
use mathlib.Core.List.{◌++◌}
use Prim.Native.Nat.{ℕ, ◌≤◌, ◌<◌}
use native.Mathlib.Omega.{arith}
use lib.ListN.{length, length-append, take}
use Rattle.std.proofs.Common.{Result, Ok, Err}
use Rattle.hexread.specs.declared.answer.Refusal.{Refusal}
use Rattle.hexread.specs.declared.answer.Refusal.TheVariants.{NoImage, Shape, Checksum, OtherType, PastEnd, SetTwice, NoEnd, TextAfter}
use Rattle.hexread.specs.Numbers.{refusal_number, read_number}
use Rattle.text.specs.Decimal.{decimal}
use Rattle.text.specs.Lines.{named, lined}
use Rattle.text.specs.Text.{codes, line_end}
use Rattle.text.proofs.DecimalLaws.{few_digits}
use Rattle.text.proofs.LineLaws.{holds}
use Rattle.text.proofs.PieceLaws.{named_few}
use Rattle.hexverdict.specs.Verdict.{refusal, said, verdict_of}

-- a number that a program holds, of twenty digits at most
abbrev Held : ℕ → Type 0
Held n = n < 18446744073709551616

-- the line, where there is one
abbrev pub RefusalInRange : Refusal → Type 0
RefusalInRange NoImage = Unit
RefusalInRange (Shape line) = Held line
RefusalInRange (Checksum line) = Held line
RefusalInRange (OtherType line) = Held line
RefusalInRange (PastEnd line) = Held line
RefusalInRange (SetTwice line) = Held line
RefusalInRange NoEnd = Unit
RefusalInRange TextAfter = Unit

abbrev pub InRange : Result Unit Refusal → Type 0
InRange (Ok done) = Unit
InRange (Err refusal) = RefusalInRange refusal

refusal_few : (n : ℕ) → n < 100 → length (refusal n) ≤ 10
refusal_few n h = omega (arith, few_digits 1 n h)

with_line : (n line : ℕ) → n < 100 → Held line → length (refusal n ++ named (codes "line") line) ≤ 36
with_line n line few h =
    omega (
      arith,
      length-append (refusal n) (named (codes "line") line),
      refusal_few n few,
      named_few (codes "line") 19 line (omega arith),
    )

refused_few : (r : Refusal) (count : ℕ) → RefusalInRange r → length (said (refusal_number r) count) ≤ 36
refused_few NoImage count h = omega (arith, refusal_few 19 (omega arith))
refused_few (Shape line) count h = with_line 20 line (omega arith) h
refused_few (Checksum line) count h = with_line 21 line (omega arith) h
refused_few (OtherType line) count h = with_line 22 line (omega arith) h
refused_few (PastEnd line) count h = with_line 23 line (omega arith) h
refused_few (SetTwice line) count h = with_line 24 line (omega arith) h
refused_few NoEnd count h = omega (arith, refusal_few 25 (omega arith))
refused_few TextAfter count h = omega (arith, refusal_few 26 (omega arith))

said_few : (a : Result Unit Refusal) (count : ℕ) → InRange a → Held count → length (said (read_number a) count) ≤ 36
said_few (Ok done) count h hc =
    omega (
      arith,
      length-append (codes "read " ++ decimal count) (codes " bytes"),
      few_digits 19 count (omega arith),
    )
said_few (Err r) count h hc = refused_few r count h

module _ (a : Result Unit Refusal) (count : ℕ) (h : InRange a) (hc : Held count) where
  pub verdict_fits : length (verdict_of (read_number a) count) ≤ 64
  unfolding verdict_of
  verdict_fits = omega (arith, length-append (said (read_number a) count) line_end, said_few a count h hc)

  pub verdict_whole :
      let l = lined (verdict_of (read_number a) count) in
      take l.length l.bytes ≡ verdict_of (read_number a) count
  verdict_whole = holds (verdict_of (read_number a) count) verdict_fits
