-- What the first stage does when it has read.
use Rattle.std.specs.Prelude.{◌≡◌, ℕ, List, [], Some, None}
use Rattle.std.specs.declared.option.Option.{Option}
use Rattle.fault_io.specs.Files.{Files, stored}
use Rattle.fault_io.specs.Shelves.{MayHaveStored}
use Rattle.frame_codec.specs.declared.frame.Frame.{Frame}
use Rattle.frame_codec.specs.Messages.{message_frames}
use Rattle.network_meaning.specs.Sorts.{Event, Event.goes_on, Event.sends, Event.leaves}
use Rattle.quel_network.specs.Sorts.{quel_sorts}
use Rattle.monitor.specs.declared.at.At.{At}
use Rattle.monitor.specs.declared.at.At.TheVariants as at
use Rattle.monitor.specs.declared.event.Event.{Event as Came}
use Rattle.monitor.specs.declared.event.Event.TheVariants as came

-- where it stands then
abbrev pub at_behind : Came → At
at_behind came.GoesOn = at.Reading
at_behind came.Sends = at.Waiting None
at_behind came.Leaves = at.Ended
at_behind (came.Stores name) = at.Reading

-- what it is to give then, where this is in the buffer
abbrev pub frames_behind : Came → List ℕ → List Frame
frames_behind came.GoesOn text = []
frames_behind came.Sends text = message_frames 1 text
frames_behind came.Leaves text = message_frames 10 []
frames_behind (came.Stores name) text = []

-- the files then
abbrev pub files_behind : Came → Files → List ℕ → Files
files_behind came.GoesOn known text = known
files_behind came.Sends known text = known
files_behind came.Leaves known text = known
files_behind (came.Stores name) known text = stored known name text

-- the files where that failed: the file that was to be stored may have been, and every other is as it was
abbrev pub MayBeStored : Came → Files → List ℕ → Option Files → Type 0
MayBeStored came.GoesOn known text files = files ≡ Some known
MayBeStored came.Sends known text files = files ≡ Some known
MayBeStored came.Leaves known text files = files ≡ Some known
MayBeStored (came.Stores name) known text files = MayHaveStored name text known files

-- the event of the network
abbrev pub event_of : Came → List ℕ → Event quel_sorts
event_of came.GoesOn text = goes_on
event_of came.Sends text = sends text
event_of came.Leaves text = leaves
event_of (came.Stores name) text = goes_on
