-- Messages as the stages hold them, and their bytes.
use Rattle.std.specs.Prelude.{◌≡◌, ℕ, true, List, Some}
use Rattle.frame_codec.specs.Messages.{is_message_kind}
use Rattle.message_codec.specs.declared.messages.StageMessage.{StageMessage}
use Rattle.message_codec.specs.declared.messages.StageMessage.TheVariants as stage
use Rattle.network_meaning.specs.Frames.{kind_of}
use Rattle.network_meaning.specs.Sorts.{Message, Cargo.tree, Cargo.change, Shown.head, Shown.row, Reply.done, Reply.refused, Said.shown, Said.replied, Message.text, Message.cargo, Message.said, Message.end, Message.quit}
use Rattle.quel_network.specs.Sorts.{quel_sorts}
use Rattle.quel_network.specs.Spelling.{message_by, payload_of}
use Rattle.tree_words.specs.Codec.{Codec}

-- the message of the network that a stage holds
abbrev pub message : StageMessage → Message quel_sorts
message (stage.Text t) = text t
message (stage.Tree t) = cargo (tree t)
message (stage.Head h) = said (shown (head h))
message (stage.Row r) = said (shown (row r))
message (stage.Change c) = cargo (change c)
message stage.End = end
message (stage.Refused r) = said (replied (refused r))
message stage.Done = said (replied done)
message stage.Quit = quit

-- these bytes, where the last frame is of this kind, are the message
abbrev pub IsMessageOf : Message quel_sorts → ℕ → List ℕ → Type 0
IsMessageOf m kind bytes = message_by kind bytes ≡ Some m

-- the message has a spelling: it is read again from its kind and its bytes
abbrev pub IsSpelled : Message quel_sorts → Type 0
IsSpelled m = message_by (kind_of m) (payload_of m) ≡ Some m

-- kind and bytes are those of the message, which has a spelling
pub record IsOf (kind : ℕ) (bytes : List ℕ) (m : Message quel_sorts) : Type 0 where
  pub kind_is : kind ≡ kind_of m
  pub bytes_are : bytes ≡ payload_of m
  pub spelled : IsSpelled m
  pub is_kind : is_message_kind kind ≡ true

-- the value that is sent in place of another has a spelling, and these are its bytes; where the other has one, it is the same
pub record IsAgain {A : Type 0} (codec : Codec A) (value sent : A) (bytes : List ℕ) : Type 0 where
  pub fits : codec.Fits sent
  pub bytes_are : bytes ≡ codec.write sent
  pub same : codec.Fits value → sent ≡ value
