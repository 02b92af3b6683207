-- Two values that may not be there, and what becomes of them.
use Rattle.std.proofs.Common.{◌≡◌, refl, ap, ap₂, subst, ◌∙◌, Option, Some, None, Result, option_map}
use Rattle.std.specs.Prelude.{IfOk}
use Rattle.catalog_read.specs.Rows.{both_there, AreBoth}

there_mapped : {A B X Y : Type 0} (f : A → X) (g : B → Y) (a : Option A) (b : Option B) → option_map (λ p. (f p.0, g p.1)) (both_there a b) ≡ both_there (option_map f a) (option_map g b)
there_mapped f g None b = refl
there_mapped f g (Some a) None = refl
there_mapped f g (Some a) (Some b) = refl

-- both of what was made are both of what they are to be
pub mapped_both : {A B X Y E : Type 0} (f : A → X) (g : B → Y) (x : Option X) (y : Option Y) (first : Result (Option A) E) (second : Result (Option B) E) (found : Option (A × B))
    → AreBoth first second found → IfOk first (λ a. option_map f a ≡ x) → IfOk second (λ b. option_map g b ≡ y) → option_map (λ p. (f p.0, g p.1)) found ≡ both_there x y
mapped_both f g x y first second found are h k =
    let one : option_map f are.one ≡ x = subst (λ r. IfOk r (λ a. option_map f a ≡ x)) are.first_is h in
    let other : option_map g are.other ≡ y = subst (λ r. IfOk r (λ b. option_map g b ≡ y)) are.second_is k in
    ap (option_map (λ p. (f p.0, g p.1))) are.found_is ∙ there_mapped f g are.one are.other ∙ ap₂ both_there one other

-- the same of what is made as it is
pub plain_both : {A B E : Type 0} (x : Option A) (y : Option B) (first : Result (Option A) E) (second : Result (Option B) E) (found : Option (A × B))
    → AreBoth first second found → IfOk first (λ a. a ≡ x) → IfOk second (λ b. b ≡ y) → found ≡ both_there x y
plain_both x y first second found are h k =
    are.found_is ∙ ap₂ both_there (subst (λ r. IfOk r (λ a. a ≡ x)) are.first_is h) (subst (λ r. IfOk r (λ b. b ≡ y)) are.second_is k)
