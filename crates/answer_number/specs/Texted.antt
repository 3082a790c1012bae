-- A text that was written into a lent buffer, as another language has it.
use Rattle.std.specs.Prelude.{ℕ, List}
use Rattle.fields.specs.Written.{Written}
use Rattle.answer_number.specs.Numbered.{number_of, values_of}

-- after a text was written: the number with its values, and the buffer
pub record Texted : Type 0 where
  pub number : ℕ
  pub values : List ℕ
  pub text : List ℕ

abbrev pub texted : ℕ → List ℕ → List ℕ → Texted
texted number values text = record { number = number; values = values; text = text }

abbrev pub texted_of : Written → Texted
texted_of w = texted (number_of w.answer) (values_of w.answer) w.buffer
