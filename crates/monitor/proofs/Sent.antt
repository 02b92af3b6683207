-- The frames of a message, where nothing was to be given before.
use Rattle.std.proofs.Common.{◌≡◌, ap, ◌∙◌, ℕ, List, [], ◌++◌}
use Rattle.frame_codec.specs.declared.frame.Frame.{Frame}
use Rattle.frame_codec.specs.Messages.{message_frames}

pub frames_put : (old new : List Frame) (kind kind' : ℕ) (bytes bytes' : List ℕ) → old ≡ [] → kind ≡ kind' → bytes ≡ bytes' → new ≡ old ++ message_frames kind bytes → new ≡ message_frames kind' bytes'
frames_put old new kind kind' bytes bytes' none e f h =
    h ∙ ap (λ (fs : List Frame). fs ++ message_frames kind bytes) none ∙ ap (λ (k : ℕ). message_frames k bytes) e ∙ ap (λ (bs : List ℕ). message_frames kind' bs) f
