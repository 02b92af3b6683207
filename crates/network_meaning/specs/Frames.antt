-- Messages as frames: the kind of each, how it is cut, and what frames are read as.
use Rattle.std.specs.Prelude.{◌≡◌, ℕ, ◌==◌, Bool, true, false, List, [], ◌∷◌, ◌++◌, Some, None, ⊤}
use Rattle.std.specs.declared.option.Option.{Option}
use Rattle.std.specs.List.{flat_map}
use Rattle.frame_codec.specs.declared.frame.Frame.{Frame}
use Rattle.frame_codec.specs.Messages.{message_frames}
use Rattle.network_meaning.specs.Sorts.{Sorts, Message}
use Rattle.network_meaning.specs.Sorts.{Cargo.tree, Cargo.change, Shown.head, Shown.row, Reply.done, Reply.refused, Said.shown, Said.replied, Message.text, Message.cargo, Message.said, Message.end, Message.quit}
use Rattle.network_meaning.specs.Language.{Language}

-- the kind of a message: that of the last of its frames
abbrev pub kind_of : {S : Sorts} → Message S → ℕ
kind_of (text t) = 1
kind_of (cargo (tree t)) = 2
kind_of (said (shown (head h))) = 3
kind_of (said (shown (row r))) = 4
kind_of (cargo (change c)) = 5
kind_of end = 6
kind_of (said (replied (refused r))) = 7
kind_of (said (replied done)) = 8
kind_of quit = 10

-- the frames of a message: More frames of 4,096 bytes each, and one of its kind with the remaining bytes
abbrev pub frames : {S : Sorts} → Language S → Message S → List Frame
frames L m = message_frames (kind_of m) (L.payload m)

-- behind this frame its message goes on
abbrev pub is_more : Frame → Bool
is_more f = f.kind == 11

-- the message may have More frames: a batch, a tree, a change, a head and a row may; a reply, an end and a quit are one frame each
abbrev pub may_be_cut : {S : Sorts} → Message S → Bool
may_be_cut (text t) = true
may_be_cut (cargo x) = true
may_be_cut (said (shown s)) = true
may_be_cut (said (replied r)) = false
may_be_cut end = false
may_be_cut quit = false

-- each of these is a More frame
abbrev pub AllMore : List Frame → Type 0
AllMore [] = ⊤
AllMore (f ∷ fs) = (is_more f ≡ true) × AllMore fs

-- the last of these frames, where there is one
abbrev pub last_of : List Frame → Option Frame
last_of [] = None
last_of (f ∷ []) = Some f
last_of (f ∷ g ∷ fs) = last_of (g ∷ fs)

-- the bytes of these frames, one behind the other
abbrev pub payloads : List Frame → List ℕ
payloads fs = flat_map (λ f. f.payload) fs

-- the message of these bytes, by the kind of a last frame, where there is one
abbrev pub read_by : {S : Sorts} → Language S → Option Frame → List ℕ → Option (Message S)
read_by L None bytes = None
read_by L (Some f) bytes = L.message_of f.kind bytes

-- the message that these frames are joined to: the last one gives the kind, and all of them the bytes
abbrev pub whole : {S : Sorts} → Language S → List Frame → Option (Message S)
whole L fs = read_by L (last_of fs) (payloads fs)

-- the frames of messages, one behind the other
abbrev pub spell : {S : Sorts} → Language S → List (Message S) → List Frame
spell L [] = []
spell L (m ∷ ms) = frames L m ++ spell L ms
