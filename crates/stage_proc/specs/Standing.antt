-- Where the query processor stands.
use Rattle.std.specs.Prelude.{◌≡◌, ◌++◌, ℕ, List, [], ⊤}
use Rattle.calculus.specs.declared.request.Checked.{Checked}
use Rattle.frame_codec.specs.declared.frame.Frame.{Frame}
use Rattle.frame_codec.specs.Messages.{message_frames}
use Rattle.network_meaning.specs.LocalSteps.{Mode, Mode.idle3, Mode.working3, Mode.passing3, Mode.ended as over}
use Rattle.network_meaning.specs.Network.{LocalState}
use Rattle.quel_network.specs.Sorts.{quel_sorts}
use Rattle.stage_proc.specs.declared.at.At.{At}
use Rattle.stage_proc.specs.declared.at.At.TheVariants as at
use Rattle.stage_proc.specs.declared.processed.Processed.{Processed}
use Rattle.stage_proc.specs.declared.processed.Processed.TheVariants as processed
use Rattle.stage_proc.specs.Held.{IsTreeOf}

-- the mode of a stage that stands here
abbrev pub mode_at : At → Mode quel_sorts
mode_at at.Idle = idle3
mode_at (at.Working t) = working3 t
mode_at at.Passing = passing3
mode_at at.Ended = over

-- with these frames of a message taken from its left, and these still to give to its left and to its right
abbrev pub standing : At → List Frame → List Frame → List Frame → LocalState quel_sorts
standing here got left right = record { mode = mode_at here; got_left = got; got_right = []; out_left = left; out_right = right }

-- it has a tree to work on
abbrev pub IsWorking : At → Type 0
IsWorking at.Idle = ⊥
IsWorking (at.Working t) = ⊤
IsWorking at.Passing = ⊥
IsWorking at.Ended = ⊥

-- these are the bytes of the tree that it works on
abbrev pub AreBytesAt : At → List ℕ → Type 0
AreBytesAt here bytes = (t : Checked) → here ≡ at.Working t → IsTreeOf t bytes

-- what a tree comes to is to be given: what is shown to the left, a change or the tree itself to the right, and then the reply is passed on
abbrev pub HasSettled : At → List Frame → List Frame → Processed → At → List Frame → List Frame → Type 0
HasSettled here left right (processed.Shows frames) here' left' right' = (here' ≡ at.Idle) × (left' ≡ frames) × (right' ≡ right)
HasSettled here left right (processed.Changes bytes) here' left' right' = (here' ≡ at.Passing) × (left' ≡ left) × (right' ≡ right ++ message_frames 5 bytes)
HasSettled here left right processed.HandsOn here' left' right' = (here' ≡ at.Passing) × (left' ≡ left) × ((bytes : List ℕ) × AreBytesAt here bytes × (right' ≡ right ++ message_frames 2 bytes))
