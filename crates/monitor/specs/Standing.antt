-- Where the first stage stands.
use Rattle.std.specs.Prelude.{◌≡◌, Bool, true, false, List, [], Some, None, ⊤}
use Rattle.std.specs.declared.option.Option.{Option}
use Rattle.calculus.specs.declared.reply.Column.{Column}
use Rattle.calculus.specs.Rows.{Row}
use Rattle.frame_codec.specs.declared.frame.Frame.{Frame}
use Rattle.message_codec.specs.declared.messages.StageMessage.{StageMessage}
use Rattle.message_codec.specs.declared.messages.StageMessage.TheVariants as stage
use Rattle.message_codec.specs.Messages.{message}
use Rattle.network_meaning.specs.LocalSteps.{Mode, Mode.reading, Mode.waiting, Mode.printing, Mode.ended as over}
use Rattle.network_meaning.specs.Network.{LocalState}
use Rattle.quel_network.specs.Sorts.{Monitor, quel_sorts}
use Rattle.quel_network.specs.Spelling.{row_suits}
use Rattle.monitor.specs.declared.at.At.{At}
use Rattle.monitor.specs.declared.at.At.TheVariants as at

-- the mode of a stage that stands here
abbrev pub mode_at : Monitor → At → Mode quel_sorts
mode_at m at.Reading = reading m
mode_at m (at.Waiting begun) = waiting m begun
mode_at m (at.Printing begun said) = printing m begun (message said)
mode_at m at.Ended = over

-- with these frames of a message taken, and these still to give to its right
abbrev pub standing : Monitor → At → List Frame → List Frame → LocalState quel_sorts
standing m here got out = record { mode = mode_at m here; got_left = []; got_right = got; out_left = []; out_right = out }

-- it waits for what comes back
abbrev pub waits : At → Bool
waits (at.Waiting begun) = true
waits at.Reading = false
waits (at.Printing begun said) = false
waits at.Ended = false

-- a row stands behind a head that it suits
abbrev pub row_stands : Option (List Column) → Row → Bool
row_stands None values = false
row_stands (Some columns) values = row_suits columns values

-- a message is due here: a head, a reply and an end always are, and a row behind a head that it suits
abbrev pub is_due_here : Option (List Column) → StageMessage → Bool
is_due_here begun (stage.Head columns) = true
is_due_here begun (stage.Row values) = row_stands begun values
is_due_here begun stage.Done = true
is_due_here begun (stage.Refused r) = true
is_due_here begun stage.End = true
is_due_here begun (stage.Text t) = false
is_due_here begun (stage.Tree t) = false
is_due_here begun (stage.Change c) = false
is_due_here begun stage.Quit = false

-- what is to be printed is due
abbrev pub IsDueAt : At → Type 0
IsDueAt (at.Printing begun said) = is_due_here begun said ≡ true
IsDueAt at.Reading = ⊤
IsDueAt (at.Waiting begun) = ⊤
IsDueAt at.Ended = ⊤

-- where it stands behind what was printed
abbrev pub at_said : Option (List Column) → StageMessage → At
at_said begun (stage.Head columns) = at.Waiting (Some columns)
at_said begun (stage.Row values) = at.Waiting begun
at_said begun stage.Done = at.Waiting None
at_said begun (stage.Refused r) = at.Waiting None
at_said begun stage.End = at.Reading
at_said begun (stage.Text t) = at.Waiting begun
at_said begun (stage.Tree t) = at.Waiting begun
at_said begun (stage.Change c) = at.Waiting begun
at_said begun stage.Quit = at.Waiting begun

-- the same, where it printed
abbrev pub at_printed : At → At
at_printed (at.Printing begun said) = at_said begun said
at_printed at.Reading = at.Reading
at_printed (at.Waiting begun) = at.Waiting begun
at_printed at.Ended = at.Ended
