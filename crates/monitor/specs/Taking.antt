-- What the first stage takes.
use Rattle.std.specs.Prelude.{Bool, false}
use Rattle.message_codec.specs.declared.messages.StageMessage.{StageMessage}
use Rattle.monitor.specs.declared.at.At.{At}
use Rattle.monitor.specs.declared.at.At.TheVariants as at
use Rattle.monitor.specs.Standing.{is_due_here}

-- it waits for a message, and this one is due
abbrev pub comes_due : At → StageMessage → Bool
comes_due (at.Waiting begun) said = is_due_here begun said
comes_due at.Reading said = false
comes_due (at.Printing begun printed) said = false
comes_due at.Ended said = false

-- where it stands when it has taken the message, where it waited
abbrev pub at_taking : At → StageMessage → At
at_taking (at.Waiting begun) said = at.Printing begun said
at_taking at.Reading said = at.Reading
at_taking (at.Printing begun printed) said = at.Printing begun printed
at_taking at.Ended said = at.Ended
