-- Messages: which frames one is cut into, and its bytes.
use Rattle.std.specs.Prelude.{ℕ, zero, suc, ◌/◌, ◌&&◌, ◌==◌, Bool, true, false, nat_le, List, [], ◌∷◌, ◌++◌, Option, Some, None, length, take, drop}
use Rattle.frame_codec.specs.declared.frame.Frame.{Frame}
use Rattle.frame_codec.specs.declared.message.Message.{Message}
use Rattle.frame_codec.specs.Frames.{frames_bytes}

-- a frame
abbrev pub frame : ℕ → List ℕ → Frame
frame kind payload = record { kind = kind; payload = payload }

-- the number is a kind that a message may have: any but that of More frames
abbrev pub is_message_kind : ℕ → Bool
is_message_kind kind = nat_le 1 kind && nat_le kind 10

-- the message in so many More frames, and a frame of its kind with the remaining bytes
abbrev pub cut_into : ℕ → ℕ → List ℕ → List Frame
cut_into zero kind bytes = frame kind bytes ∷ []
cut_into (suc n) kind bytes = frame 11 (take 4096 bytes) ∷ cut_into n kind (drop 4096 bytes)

-- the frames of a message: as many More frames as its bytes fill, and a frame of its kind with the remaining bytes
unfoldable pub message_frames : ℕ → List ℕ → List Frame
message_frames kind bytes = cut_into (length bytes / 4096) kind bytes

-- the bytes of a message: those of its frames
abbrev pub message_bytes : ℕ → List ℕ → List ℕ
message_bytes kind bytes = frames_bytes (message_frames kind bytes)

-- a message
abbrev pub message : ℕ → List ℕ → Message
message kind bytes = record { kind = kind; bytes = bytes }

-- messages, and the bytes of one that isn't whole yet
abbrev pub Joined : Type 0
Joined = List Message × List ℕ

-- the messages of frames, behind the bytes of one that isn't whole yet: a More frame's bytes belong to the message of the next frame that is none
abbrev pub joined : List ℕ → List Frame → Joined
joined begun [] = ([], begun)
joined begun (f ∷ frames) = elim (f.kind == 11) [
  | true ↦ joined (begun ++ f.payload) frames
  | false ↦ (let later = joined [] frames in (message f.kind (begun ++ f.payload) ∷ later.0, later.1))
]

-- a list of the message, or of none
abbrev pub listed : Option Message → List Message
listed None = []
listed (Some m) = m ∷ []
