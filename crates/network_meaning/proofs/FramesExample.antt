-- Frames of the small language, worked out by hand.
use Rattle.std.proofs.Common.{◌≡◌, [], ◌∷◌, Some, None, refl}
use Rattle.frame_codec.specs.Messages.{frame, message_frames}
use Rattle.network_meaning.specs.Sorts.{Reply.refused, Said.replied, Message.text, Message.said, Message.end, Message.quit}
use Rattle.network_meaning.specs.Frames.{frames, whole}
use Rattle.network_meaning.specs.Tiny.{tiny}

-- a quit is an empty frame of kind 10, and a refusal one of kind 7 with its number
one_frame_each : (frames tiny quit ≡ frame 10 [] ∷ []) × (frames tiny (said (replied (refused 3))) ≡ frame 7 (3 ∷ []) ∷ [])
unfolding message_frames
one_frame_each = (refl, refl)

-- the bytes of a More frame are those of the batch behind it; an end has none, so it is none behind such a frame, and a More frame alone is no message
behind_more : (whole tiny (frame 11 (7 ∷ []) ∷ frame 1 [] ∷ []) ≡ Some (text 7)) × (whole tiny (frame 6 [] ∷ []) ≡ Some end) × (whole tiny (frame 11 (7 ∷ []) ∷ frame 6 [] ∷ []) ≡ None) × (whole tiny (frame 11 (7 ∷ []) ∷ []) ≡ None)
behind_more = (refl, refl, refl, refl)
