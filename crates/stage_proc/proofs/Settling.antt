-- What a tree came to is to be given.
use Rattle.std.proofs.Common.{◌≡◌, sym, subst, ◌∙◌, ℕ, List, ◌++◌, Result, Ok, Err}
use Rattle.std.specs.Prelude.{OnOk}
use Rattle.frame_codec.specs.declared.frame.Frame.{Frame}
use Rattle.frame_codec.specs.Messages.{message_frames}
use Rattle.stage_proc.specs.declared.at.At.{At}
use Rattle.stage_proc.specs.declared.at.At.TheVariants as at
use Rattle.stage_proc.specs.declared.processed.Processed.{Processed}
use Rattle.stage_proc.specs.declared.processed.Processed.TheVariants as processed
use Rattle.stage_proc.specs.Standing.{AreBytesAt, HasSettled}

pub settled_shown : (here : At) (left right frames : List Frame) (made : Processed) (here' : At) (left' right' : List Frame) → made ≡ processed.Shows frames → here' ≡ at.Idle → left' ≡ frames → right' ≡ right → HasSettled here left right made here' left' right'
settled_shown here left right frames made here' left' right' is h l r = subst (λ (m : Processed). HasSettled here left right m here' left' right') (sym is) (h, l, r)

pub settled_change : {E : Type 0} (r : Result (Unit {0}) E) (here : At) (left right : List Frame) (bytes : List ℕ) (made : Processed) (here' : At) (left' right' : List Frame) → made ≡ processed.Changes bytes → OnOk r (here' ≡ at.Passing) → left' ≡ left
    → OnOk r (right' ≡ right ++ message_frames 5 bytes) → OnOk r (HasSettled here left right made here' left' right')
settled_change (Ok x) here left right bytes made here' left' right' is h l e = subst (λ (m : Processed). HasSettled here left right m here' left' right') (sym is) (h, l, e)
settled_change (Err f) here left right bytes made here' left' right' is h l e = tt

pub settled_tree : {E : Type 0} (r : Result (Unit {0}) E) (here : At) (left right : List Frame) (bytes : List ℕ) (made : Processed) (here' : At) (left' right' : List Frame) → made ≡ processed.HandsOn → AreBytesAt here bytes → OnOk r (here' ≡ at.Passing) → left' ≡ left
    → OnOk r (right' ≡ right ++ message_frames 2 bytes) → OnOk r (HasSettled here left right made here' left' right')
settled_tree (Ok x) here left right bytes made here' left' right' is are h l e = subst (λ (m : Processed). HasSettled here left right m here' left' right') (sym is) (h, l, (bytes, are, e))
settled_tree (Err f) here left right bytes made here' left' right' is are h l e = tt

-- the bytes of what was in this place
pub bytes_there : (here there : At) (bytes : List ℕ) → there ≡ here → AreBytesAt there bytes → AreBytesAt here bytes
bytes_there here there bytes same are = λ t e. are t (same ∙ e)
