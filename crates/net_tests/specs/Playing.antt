-- Where a stage stands that plays a written list.
use Rattle.std.specs.Prelude.{ℕ, List, [], ◌∷◌, None, map}
use Rattle.frame_codec.specs.declared.frame.Frame.{Frame}
use Rattle.net_tests.specs.declared.players.Act.{Act}
use Rattle.net_tests.specs.declared.players.Act.TheVariants.{TakeLeft, TakeRight, Print}
use Rattle.net_tests.specs.declared.players.Move.{Move}
use Rattle.network_meaning.specs.LocalSteps.{Mode, Mode.printing, Mode.idle3, Mode.passing3, Mode.ended}
use Rattle.network_meaning.specs.Network.{LocalState}
use Rattle.network_meaning.specs.Sorts.{Message.said, Reply.done, Said.replied}
use Rattle.quel_network.specs.Sorts.{first_monitor, quel_sorts}

-- a mode in which a stage does this
abbrev pub mode_for : Act → Mode quel_sorts
mode_for TakeLeft = idle3
mode_for TakeRight = passing3
mode_for Print = printing first_monitor None (said (replied done))

-- a mode in which a stage does the first of these moves; where none is left it has ended
abbrev pub mode_of : List Move → Mode quel_sorts
mode_of [] = ended
mode_of (m ∷ moves) = mode_for m.act

-- the frame of a letter
abbrev pub frame_of : ℕ → Frame
frame_of letter = record { kind = 1; payload = letter ∷ [] }

-- a stage that is to make these moves, and before them to give these letters to its left and its right
abbrev pub playing : List Move → List ℕ → List ℕ → LocalState quel_sorts
playing moves left right = record { mode = mode_of moves; got_left = []; got_right = []; out_left = map frame_of left; out_right = map frame_of right }
