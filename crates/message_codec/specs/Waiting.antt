-- Frames that wait: those that are left of a message that is begun, and those of the messages behind it.
use Rattle.std.specs.Prelude.{◌≡◌, ℕ, true, List, [], ◌∷◌, ◌++◌, length, Some, None, ⊤}
use Rattle.std.specs.declared.option.Option.{Option}
use Rattle.std.specs.List.{flat_map, list_all}
use Rattle.frame_codec.specs.declared.frame.Frame.{Frame}
use Rattle.frame_codec.specs.declared.message.Message.{Message}
use Rattle.frame_codec.specs.Frames.{is_lawful}
use Rattle.frame_codec.specs.Messages.{is_message_kind, message_frames}

-- the frames of a message
abbrev pub frames_in : Message → List Frame
frames_in m = message_frames m.kind m.bytes

-- what is left of the message that is begun, where one is
abbrev pub rest_of : Option (List Frame) → List Frame
rest_of None = []
rest_of (Some frames) = frames

-- all frames that wait
abbrev pub waiting : Option (List Frame) → List Message → List Frame
waiting begun later = rest_of begun ++ flat_map frames_in later

-- each is of a kind that a message may have
abbrev pub HaveKinds : List Message → Type 0
HaveKinds [] = ⊤
HaveKinds (m ∷ ms) = (is_message_kind m.kind ≡ true) × HaveKinds ms

-- of the message that is begun so many frames are left, each of them lawful, and those behind it have kinds of messages
pub record Waits (begun : Option (List Frame)) (left : ℕ) (later : List Message) : Type 0 where
  pub counted : left ≡ length (rest_of begun)
  pub lawful : list_all is_lawful (rest_of begun) ≡ true
  pub kinds : HaveKinds later
