-- Laws of a record's line: how long it is, and that a Line holds it whole.
use mathlib.Core.Path.{◌≡◌}
use mathlib.Core.List.{List, [], ◌∷◌}
use Prim.Native.Nat.{ℕ, ◌+◌, ◌*◌, ◌-◌, ◌≤◌}
use native.Mathlib.Omega.{arith}
use lib.ListN.{length, length-append, length-drop, take, drop}
use lib.Seq.{length-take-le}
use Rattle.text.specs.declared.line.Line.{Line}
use Rattle.text.specs.Lines.{lined}
use Rattle.text.specs.Text.{line_end}
use Rattle.text.proofs.LineLaws.{Holds, line_holds}
use Rattle.hexline.specs.Line.{record_of, word_of, front_of, line_of}
use Rattle.hexline.specs.Spelling.{digits_of}
use Rattle.hexline.specs.Sum.{checksum}

digits_length : (bytes : List ℕ) → length (digits_of bytes) ≡ 2 * length bytes
unfolding digits_of
digits_length [] = omega arith
digits_length (b ∷ bs) = omega (arith, digits_length bs)

pub line_length : (type address : ℕ) (held : List ℕ) → length (line_of type address held) ≡ 12 + 2 * length held
unfolding line_of
line_length type address held =
    let front = front_of type address held in
    omega (
      arith,
      length-append (word_of type address held) line_end,
      digits_length (record_of type address held),
      length-append front (checksum front ∷ []),
    )

-- the record of so many bytes from a place on
module _ (image : List ℕ) (at n : ℕ) (inside : at + n ≤ length image) where
  pub run_length : length (line_of 0 at (take n (drop at image))) ≡ 12 + 2 * n
  run_length =
      let there : n ≤ length (drop at image) = omega (arith, length-drop at image) in
      omega (arith, line_length 0 at (take n (drop at image)), length-take-le n (drop at image) there)

  -- on a Line, which has room for sixteen
  pub run_holds :
      {line : Line} → n ≤ 16 → line ≡ lined (line_of 0 at (take (at + n - at) (drop at image))) →
      Holds (line_of 0 at (take n (drop at image))) line
  run_holds few e =
      let same : at + n - at ≡ n = omega arith in
      line_holds (line_of 0 at (take n (drop at image))) (omega (arith, run_length)) (rw same at e)

pub end_holds : {line : Line} → line ≡ lined (line_of 1 0 []) → Holds (line_of 1 0 []) line
end_holds = line_holds (line_of 1 0 []) (omega (arith, line_length 1 0 []))
