-- "Names are upper case and exact, read and written."
use Rattle.std.specs.Prelude.{ℕ, Bool, true, false, cond, ◌&&◌, List, [], ◌∷◌, Option, None, Some, eqb}
use Rattle.text.specs.Text.{codes}
use Rattle.op.specs.declared.operation.Op.{Op}
use Rattle.op.specs.Operations.{row_of, ops}

abbrev pub name_of : Op → List ℕ
name_of o = codes (row_of o).name

-- byte for byte the same
abbrev pub same_text : List ℕ → List ℕ → Bool
same_text [] [] = true
same_text [] (b ∷ t) = false
same_text (a ∷ s) [] = false
same_text (a ∷ s) (b ∷ t) = eqb a b && same_text s t

-- the operation of the list that has this name, or none
abbrev pub name_in : List Op → List ℕ → Option Op
name_in [] text = None
name_in (o ∷ os) text = cond (same_text text (name_of o)) (Some o) (name_in os text)

unfoldable pub named : List ℕ → Option Op
named text = name_in ops text
