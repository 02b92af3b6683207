-- Where the fourth stage stands.
use Rattle.std.specs.Prelude.{◌≡◌, ℕ, Bool, true, false, List, [], Some, None, Option, ⊤}
use Rattle.calculus.specs.declared.request.Checked.{Checked}
use Rattle.calculus.specs.declared.request.Checked.TheVariants as checked
use Rattle.frame_codec.specs.declared.frame.Frame.{Frame}
use Rattle.message_codec.specs.declared.messages.StageMessage.{StageMessage}
use Rattle.message_codec.specs.declared.messages.StageMessage.TheVariants as stage
use Rattle.network_meaning.specs.LocalSteps.{Mode, Mode.idle4, Mode.working4, Mode.ended}
use Rattle.network_meaning.specs.Network.{LocalState}
use Rattle.network_meaning.specs.Sorts.{Cargo.tree, Cargo.change}
use Rattle.quel_network.specs.Sorts.{User, quel_sorts}
use Rattle.quel_tree.specs.Changes.{change as change_codec}
use Rattle.quel_tree.specs.Message.{most_tree_levels}
use Rattle.quel_tree.specs.Requests.{checked as checked_codec}
use Rattle.stage_util.specs.declared.at.At.{At}
use Rattle.stage_util.specs.declared.at.At.TheVariants as at

-- the mode of a stage that stands here
abbrev pub mode_at : At → Mode quel_sorts
mode_at at.Idle = idle4
mode_at (at.Tree t) = working4 (tree t)
mode_at (at.Change c) = working4 (change c)
mode_at at.Ended = ended

-- with these frames of a message taken from its left, and these still to give to it
abbrev pub standing : At → List Frame → List Frame → LocalState quel_sorts
standing here got out = record { mode = mode_at here; got_left = got; got_right = []; out_left = out; out_right = [] }

-- what is in its hands has a spelling: it was read from one
abbrev pub IsHeldSpelled : At → Type 0
IsHeldSpelled (at.Tree t) = (checked_codec most_tree_levels).Fits t
IsHeldSpelled (at.Change c) = (change_codec most_tree_levels).Fits c
IsHeldSpelled at.Idle = ⊤
IsHeldSpelled at.Ended = ⊤

-- it was made for this user, and what is in its hands has a spelling
abbrev pub Serves : List ℕ → At → User → Type 0
Serves name here user = (user.asker.user ≡ name) × IsHeldSpelled here

-- it has something in its hands
abbrev pub IsHolding : At → Type 0
IsHolding (at.Tree t) = ⊤
IsHolding (at.Change c) = ⊤
IsHolding at.Idle = ⊥
IsHolding at.Ended = ⊥

-- the tree asks for work of the utilities
abbrev pub is_work : Checked → Bool
is_work (checked.Utility work) = true
is_work (checked.Answer asked) = false
is_work (checked.Update u) = false

-- where it stands with a tree in its hands; none where that asks for no work of the utilities
abbrev pub tree_taken : Checked → Option At
tree_taken t = elim (is_work t) [ true ↦ Some (at.Tree t) | false ↦ None ]

-- where it stands that has taken this message while it was idle; none where the message may not come
abbrev pub at_taking : StageMessage → Option At
at_taking (stage.Tree t) = tree_taken t
at_taking (stage.Change c) = Some (at.Change c)
at_taking stage.Quit = Some at.Ended
at_taking (stage.Text t) = None
at_taking (stage.Head h) = None
at_taking (stage.Row r) = None
at_taking stage.End = None
at_taking (stage.Refused r) = None
at_taking stage.Done = None
