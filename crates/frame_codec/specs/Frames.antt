-- Frames: their kinds, their lengths, and their bytes.
use Rattle.std.specs.Prelude.{ℕ, ◌/◌, ◌%◌, ◌==◌, ◌&&◌, Bool, nat_le, nat_lt, List, ◌∷◌, length, if◌then◌else◌}
use Rattle.std.specs.List.{flat_map}
use Rattle.frame_codec.specs.declared.frame.Frame.{Frame}

-- the number is that of a kind
abbrev pub is_kind : ℕ → Bool
is_kind kind = nat_le 1 kind && nat_le kind 11

-- a frame of the kind may have so many bytes: 4,096 where it is a More frame, and fewer where it isn't
abbrev pub has_length : ℕ → ℕ → Bool
has_length kind n = if kind == 11 then n == 4096 else nat_lt n 4096

-- the frame has a kind, and a length that the kind may have
abbrev pub is_lawful : Frame → Bool
is_lawful frame = is_kind frame.kind && has_length frame.kind (length frame.payload)

-- the bytes of a frame: its kind, its length as two bytes, the higher first, and its payload
abbrev pub frame_bytes : Frame → List ℕ
frame_bytes frame = frame.kind ∷ (length frame.payload / 256) ∷ (length frame.payload % 256) ∷ frame.payload

-- the bytes of frames, one behind the other
abbrev pub frames_bytes : List Frame → List ℕ
frames_bytes frames = flat_map frame_bytes frames
