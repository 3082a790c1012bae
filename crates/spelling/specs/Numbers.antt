-- "Numbers that come back": the paper's number and values for each case of the answer. With 0 comes the length of the text.
use Rattle.std.specs.Prelude.{ℕ, List, [], ◌∷◌, Result, Ok, Err}
use Rattle.spelling.specs.declared.check.CheckRefusal.{CheckRefusal}
use Rattle.spelling.specs.declared.check.CheckRefusal.TheVariants.{TooLong, NoRoom}

abbrev pub refusal_number : CheckRefusal → List ℕ
refusal_number (TooLong length) = 11 ∷ length ∷ 0 ∷ []
refusal_number (NoRoom needed) = 14 ∷ needed ∷ []

abbrev pub check_number : Result ℕ CheckRefusal → List ℕ
check_number (Ok length) = 0 ∷ length ∷ []
check_number (Err e) = refusal_number e
