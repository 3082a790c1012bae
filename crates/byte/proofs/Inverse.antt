-- A function that another undoes gives equal values at equal arguments alone: how a numbering is shown to be injective.
use Rattle.std.proofs.Common.{◌≡◌, sym, ap, ◌∙◌}

pub undone : {A B : Type 0} (f : A → B) (g : B → A) → ((a : A) → g (f a) ≡ a) → (a b : A) → f a ≡ f b → a ≡ b
undone f g back a b e = sym (back a) ∙ ap g e ∙ back b
