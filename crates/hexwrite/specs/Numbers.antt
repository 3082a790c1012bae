-- The paper's number and values for each case of the answer. With 0 comes the length of the text.
use Rattle.std.specs.Prelude.{ℕ, List, [], ◌∷◌, Result, Ok, Err}
use Rattle.hexwrite.specs.declared.write.WriteRefusal.{WriteRefusal}
use Rattle.hexwrite.specs.declared.write.WriteRefusal.TheVariants.{NoImage, NoRoom}

abbrev pub write_number : Result ℕ WriteRefusal → List ℕ
write_number (Ok length) = 0 ∷ length ∷ []
write_number (Err NoImage) = 19 ∷ []
write_number (Err (NoRoom needed)) = 14 ∷ needed ∷ []
