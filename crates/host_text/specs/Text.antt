-- A program in words, and the labels of a source.
use Rattle.std.specs.Prelude.{ℕ, List}
use Rattle.answer_number.specs.Numbered.{number_of, values_of}
use Rattle.answer_number.specs.Texted.{Texted, texted_of}
use Rattle.labels.specs.Pass.{Mapping, mapping_of}
use Rattle.listing.specs.Listing.{listing_of}

abbrev pub list_from : (program : List ℕ) (start : ℕ) (text : List ℕ) → Texted
list_from program start text = texted_of (listing_of program start text)

-- after the address pass: the number with its values, and the table
pub record Mapped : Type 0 where
  pub number : ℕ
  pub values : List ℕ
  pub count : ℕ
  pub places : List ℕ
  pub lengths : List ℕ
  pub addresses : List ℕ

abbrev pub mapped : ℕ → List ℕ → ℕ → List ℕ → List ℕ → List ℕ → Mapped
mapped number values count places lengths addresses =
    record {
      number = number;
      values = values;
      count = count;
      places = places;
      lengths = lengths;
      addresses = addresses;
    }

abbrev pub mapped_of : Mapping → Mapped
mapped_of m =
    mapped
    (number_of m.answer)
    (values_of m.answer)
    m.labels.count
    m.labels.places
    m.labels.lengths
    m.labels.addresses

abbrev pub map_from : List ℕ → Mapped
map_from source = mapped_of (mapping_of source)
