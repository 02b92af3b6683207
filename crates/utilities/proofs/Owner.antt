-- Nothing refuses only the owner.
use Rattle.std.proofs.Common.{◌≡◌, refl, sym, ◌∙◌, ℕ, Bool, true, false, [], ◌∷◌, Some, None}
use Rattle.std.specs.declared.option.Option.{Option}
use Rattle.calculus.specs.Replacement.{first_refusal}

pub the_owner : (there : Bool) (n : Option ℕ) → n ≡ first_refusal ((24, there) ∷ []) → n ≡ None → there ≡ false
the_owner true n e none = let no : ◌≡◌ {A = Option ℕ} (Some 24) None = sym e ∙ none in absurd (cc no)
the_owner false n e none = refl
