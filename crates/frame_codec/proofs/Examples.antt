-- Worked examples.
use Rattle.std.proofs.Common.{◌≡◌, refl, Some, None, [], ◌∷◌}
use Rattle.frame_codec.specs.declared.fault.FrameFault.TheVariants.{BadKind as bad_kind_at, TooLong as too_long_at}
use Rattle.frame_codec.specs.Frames.{frame_bytes}
use Rattle.frame_codec.specs.Messages.{frame, message_frames}
use Rattle.frame_codec.specs.Reading.{broken_at, front_of, left_at, read}

-- a frame of kind 1 with two bytes
spelled : frame_bytes (frame 1 (65 ∷ 66 ∷ [])) ≡ 1 ∷ 0 ∷ 2 ∷ 65 ∷ 66 ∷ []
spelled = refl

-- a header and nothing behind it is a whole frame; without its last byte it is a part of one
whole : read 7 (10 ∷ 0 ∷ 0 ∷ []) ≡ record { frames = frame 10 [] ∷ []; left = []; place = 10; fault = None }
unfolding read front_of
whole = refl

part : read 7 (10 ∷ 0 ∷ []) ≡ left_at 7 (10 ∷ 0 ∷ [])
unfolding read front_of
part = refl

-- two frames, and a part of a third
two_and_a_part : read 0 (1 ∷ 0 ∷ 1 ∷ 65 ∷ 6 ∷ 0 ∷ 0 ∷ 4 ∷ 0 ∷ 2 ∷ 7 ∷ []) ≡ record { frames = frame 1 (65 ∷ []) ∷ frame 6 [] ∷ []; left = 4 ∷ 0 ∷ 2 ∷ 7 ∷ []; place = 7; fault = None }
unfolding read front_of
two_and_a_part = refl

-- a frame before a byte that is no kind
bad_kind : read 0 (10 ∷ 0 ∷ 0 ∷ 12 ∷ []) ≡ record { frames = frame 10 [] ∷ []; left = []; place = 3; fault = Some (bad_kind_at 3) }
unfolding read front_of
bad_kind = refl

-- lengths that no frame of the kind has: 4,097 bytes, one byte of More, 4,096 bytes of another kind
too_long : read 0 (10 ∷ 16 ∷ 1 ∷ []) ≡ broken_at 0 (too_long_at 1)
unfolding read front_of
too_long = refl

short_more : read 0 (11 ∷ 0 ∷ 1 ∷ []) ≡ broken_at 0 (too_long_at 1)
unfolding read front_of
short_more = refl

full_tree : read 0 (2 ∷ 16 ∷ 0 ∷ []) ≡ broken_at 0 (too_long_at 1)
unfolding read front_of
full_tree = refl

-- a message of no bytes, and a short one
empty_message : message_frames 6 [] ≡ frame 6 [] ∷ []
unfolding message_frames
empty_message = refl

short_message : message_frames 1 (65 ∷ 66 ∷ []) ≡ frame 1 (65 ∷ 66 ∷ []) ∷ []
unfolding message_frames
short_message = refl
