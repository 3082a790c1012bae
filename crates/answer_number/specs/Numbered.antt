-- An answer as a list, "the paper's number" first and its values behind it, and as the numbers that stand for it: always two values, 0 for one that there is not.
use Rattle.std.specs.Prelude.{ℕ, List, [], ◌∷◌, get_or}
use Rattle.answer_number.specs.declared.Numbered.{Numbered}

abbrev pub numbered : List ℕ → Numbered
numbered answer = record { number = get_or answer 0 0; first = get_or answer 1 0; second = get_or answer 2 0 }

abbrev pub number_of : List ℕ → ℕ
number_of answer = get_or answer 0 0

abbrev pub values_of : List ℕ → List ℕ
values_of answer = get_or answer 1 0 ∷ get_or answer 2 0 ∷ []
