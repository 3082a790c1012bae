-- Words are what blanks part.
use Rattle.std.specs.Prelude.{ℕ, ◌+◌, Bool, false, not, cond, ◌||◌, List, [], ◌∷◌, length, take}
use Rattle.scan.specs.declared.class.Class.TheVariants.{Blank}
use Rattle.scan.specs.Class.{blank}
use Rattle.scan.specs.Scan.{first}
use Rattle.names.specs.Names.{same_text}

-- 1 where a word begins at a byte: one that is no blank, and does not go on with a word
abbrev pub begun : Bool → ℕ → ℕ
begun inside b = cond (inside || blank b) 0 1

-- how many words begin in a text, from whether a word may go on in it
unfoldable pub words_in : Bool → List ℕ → ℕ
words_in inside [] = 0
words_in inside (b ∷ bs) = begun inside b + words_in (not (blank b)) bs

abbrev pub words : List ℕ → ℕ
words line = words_in false line

abbrev pub first_word : List ℕ → List ℕ
first_word line = take (first Blank line) line

abbrev pub starts : List ℕ → List ℕ → Bool
starts beginning line = same_text (take (length beginning) line) beginning
