-- What the query processor gives, as what the network gives.
use Rattle.std.proofs.Common.{◌≡◌, inl, inr, refl, sym, subst, List, [], ◌∷◌}
use Rattle.frame_codec.specs.declared.frame.Frame.{Frame}
use Rattle.net_core.specs.Wants.{IsToGive}
use Rattle.network_meaning.specs.Calls.{Given}
use Rattle.stage_proc.specs.declared.at.At.{At}
use Rattle.stage_proc.specs.declared.at.At.TheVariants as at
use Rattle.stage_proc.specs.Standing.{standing}

pub gives_left : (here : At) (got left left' right : List Frame) (f : Frame) → left ≡ f ∷ left' → Given (standing here got left right) f (standing here got left' right)
gives_left here got left left' right f e = subst (λ (fs : List Frame). Given (standing here got fs right) f (standing here got left' right)) (sym e) (refl, refl)

pub gives_right : (here : At) (got left right right' : List Frame) (f : Frame) → left ≡ [] → right ≡ f ∷ right' → Given (standing here got left right) f (standing here got left right')
gives_right here got left right right' f none e =
    subst (λ (xs : List Frame). Given (standing here got xs right) f (standing here got xs right')) (sym none)
    (subst (λ (fs : List Frame). Given (standing here got [] fs) f (standing here got [] right')) (sym e) (refl, refl))

gives_some : (here : At) (got : List Frame) → IsToGive (standing here got [] []) → ⊥
gives_some at.Idle got (inl e) = cc e
gives_some at.Idle got (inr e) = cc e
gives_some (at.Working t) got (inl e) = cc e
gives_some (at.Working t) got (inr e) = cc e
gives_some at.Passing got (inl e) = cc e
gives_some at.Passing got (inr e) = cc e
gives_some at.Ended got (inl e) = cc e
gives_some at.Ended got (inr e) = cc e

-- what is to give to its right where nothing is to be given to its left
pub has_right : (here : At) (got left right : List Frame) → IsToGive (standing here got left right) → left ≡ [] → right ≡ [] → ⊥
has_right here got left right h none nothing =
    gives_some here got (subst (λ (fs : List Frame). IsToGive (standing here got [] fs)) nothing (subst (λ (fs : List Frame). IsToGive (standing here got fs right)) none h))
