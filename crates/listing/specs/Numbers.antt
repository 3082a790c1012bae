-- "Numbers that come back": the paper's number and values for each case of the answer. With 0 comes the length of the text.
use Rattle.std.specs.Prelude.{ℕ, List, [], ◌∷◌, Result, Ok, Err}
use Rattle.listing.specs.declared.listing.ListRefusal.{ListRefusal}
use Rattle.listing.specs.declared.listing.ListRefusal.TheVariants.{TooLong, NoRoom}

abbrev pub refusal_number : ListRefusal → List ℕ
refusal_number (TooLong length start) = 11 ∷ length ∷ start ∷ []
refusal_number (NoRoom needed) = 14 ∷ needed ∷ []

abbrev pub list_number : Result ℕ ListRefusal → List ℕ
list_number (Ok length) = 0 ∷ length ∷ []
list_number (Err e) = refusal_number e
