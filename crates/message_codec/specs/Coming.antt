-- What comes with a frame.
use Rattle.std.specs.Prelude.{◌≡◌, ◌⊎◌, ℕ, true, false, List, [], ◌∷◌, ◌++◌, Some, None}
use Rattle.frame_codec.specs.declared.frame.Frame.{Frame}
use Rattle.frame_codec.specs.Frames.{is_lawful}
use Rattle.message_codec.specs.declared.gathered.Came.{Came}
use Rattle.message_codec.specs.declared.gathered.Came.TheVariants as came
use Rattle.message_codec.specs.Messages.{message}
use Rattle.network_meaning.specs.Frames.{is_more, payloads}
use Rattle.network_meaning.specs.Network.{LocalState}
use Rattle.quel_network.specs.Sorts.{quel_sorts}
use Rattle.quel_network.specs.Spelling.{message_by}

-- these bytes come to this message by the kind of the last frame, or to none
abbrev pub IsCome : ℕ → List ℕ → Came → Type 0
IsCome kind bytes came.Part = ⊥
IsCome kind bytes (came.Whole m) = message_by kind bytes ≡ Some (message m)
IsCome kind bytes came.Unlawful = message_by kind bytes ≡ None

-- behind these frames comes no frame that the protocol allows, or the last one of what is no message
abbrev pub IsUnlawful : List Frame → Frame → Type 0
IsUnlawful got f = (is_lawful f ≡ false) ⊎ ((is_more f ≡ false) × (message_by f.kind (payloads got ++ f.payload) ≡ None))

-- behind these frames this comes with a frame
abbrev pub HasCome : List Frame → Frame → Came → Type 0
HasCome got f came.Part = (is_lawful f ≡ true) × (is_more f ≡ true)
HasCome got f (came.Whole m) = (is_lawful f ≡ true) × (is_more f ≡ false) × (message_by f.kind (payloads got ++ f.payload) ≡ Some (message m))
HasCome got f came.Unlawful = IsUnlawful got f

-- a stage that has one frame more of a message from its left
abbrev pub with_left : LocalState quel_sorts → Frame → LocalState quel_sorts
with_left s f = record { mode = s.mode; got_left = s.got_left ++ f ∷ []; got_right = s.got_right; out_left = s.out_left; out_right = s.out_right }

-- a stage that has one frame more of a message from its right
abbrev pub with_right : LocalState quel_sorts → Frame → LocalState quel_sorts
with_right s f = record { mode = s.mode; got_left = s.got_left; got_right = s.got_right ++ f ∷ []; out_left = s.out_left; out_right = s.out_right }
