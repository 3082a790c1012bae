-- What a function that writes a text answers, in numbers.
use mathlib.Core.Path.{◌≡◌, sym}
use mathlib.Core.List.{List, [], ◌∷◌}
use Prim.Native.Nat.{ℕ}
use Rattle.fields.specs.Written.{Written, told}
use Rattle.answer_number.specs.declared.Numbered.{Numbered}
use Rattle.answer_number.specs.Numbered.{numbered}
use Rattle.answer_number.specs.Texted.{texted, texted_of}

pub text_in_numbers :
    {n : Numbered} {answer text : List ℕ} {w : Written} → n ≡ numbered answer → told answer text ≡ w →
    texted n.number (n.first ∷ n.second ∷ []) text ≡ texted_of w
text_in_numbers number answered = rw (number, sym answered)
