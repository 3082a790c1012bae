-- An image and its marks from Intel HEX, and as Intel HEX.
use Rattle.std.specs.Prelude.{ℕ, List}
use Rattle.answer_number.specs.Numbered.{number_of, values_of}
use Rattle.answer_number.specs.Texted.{Texted, texted_of}
use Rattle.hexread.specs.File.{Reading, reading_of}
use Rattle.hexwrite.specs.Writer.{writing_of}

-- after a reading: the number with its values, the image and its marks
pub record Taken : Type 0 where
  pub number : ℕ
  pub values : List ℕ
  pub image : List ℕ
  pub marks : List ℕ

abbrev pub taken : ℕ → List ℕ → List ℕ → List ℕ → Taken
taken number values image marks =
    record { number = number; values = values; image = image; marks = marks }

abbrev pub taken_of : Reading → Taken
taken_of r = taken (number_of r.answer) (values_of r.answer) r.image r.marks

abbrev pub read_from : (text image marks : List ℕ) → Taken
read_from text image marks = taken_of (reading_of text image marks)

abbrev pub write_from : (image marks text : List ℕ) → Texted
write_from image marks text = texted_of (writing_of image marks text)
