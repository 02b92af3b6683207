-- Which messages the query processor passes on.
use Rattle.std.specs.Prelude.{◌≡◌, ◌++◌, Bool, true, false, List, Some}
use Rattle.frame_codec.specs.declared.frame.Frame.{Frame}
use Rattle.message_codec.specs.declared.messages.StageMessage.{StageMessage}
use Rattle.message_codec.specs.declared.messages.StageMessage.TheVariants as stage
use Rattle.network_meaning.specs.Frames.{payloads}
use Rattle.network_meaning.specs.Sorts.{Message}
use Rattle.quel_network.specs.Sorts.{quel_sorts}
use Rattle.quel_network.specs.Spelling.{message_by}

-- the message is a reply: a refusal, or that a change was carried out
abbrev pub is_reply : StageMessage → Bool
is_reply (stage.Refused r) = true
is_reply stage.Done = true
is_reply (stage.Text t) = false
is_reply (stage.Tree t) = false
is_reply (stage.Head h) = false
is_reply (stage.Row r) = false
is_reply (stage.Change c) = false
is_reply stage.End = false
is_reply stage.Quit = false

-- behind these frames this one is the last of some message
abbrev pub IsWhole : List Frame → Frame → Type 0
IsWhole got f = (m : Message quel_sorts) × (message_by f.kind (payloads got ++ f.payload) ≡ Some m)
