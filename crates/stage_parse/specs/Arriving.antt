-- What comes to the parser.
use Rattle.std.specs.Prelude.{◌≡◌, List}
use Rattle.frame_codec.specs.declared.frame.Frame.{Frame}
use Rattle.message_codec.specs.Coming.{HasCome}
use Rattle.message_codec.specs.declared.gathered.Came.TheVariants as came
use Rattle.message_codec.specs.declared.messages.StageMessage.{StageMessage}
use Rattle.message_codec.specs.declared.messages.StageMessage.TheVariants as stage
use Rattle.stage_parse.specs.declared.arriving.FromLeft.{FromLeft}
use Rattle.stage_parse.specs.declared.arriving.FromLeft.TheVariants as left
use Rattle.stage_parse.specs.declared.arriving.FromRight.{FromRight}
use Rattle.stage_parse.specs.declared.arriving.FromRight.TheVariants as right

-- what is taken from the left of a message
abbrev pub from_left : StageMessage → FromLeft
from_left (stage.Text t) = left.Text t
from_left stage.Quit = left.Quit
from_left _ = left.Strange

-- what is taken from the right of a message
abbrev pub from_right : StageMessage → FromRight
from_right (stage.Head h) = right.Shown
from_right (stage.Row r) = right.Shown
from_right stage.Done = right.Done
from_right (stage.Refused r) = right.Refused r
from_right stage.End = right.End
from_right _ = right.Strange

-- with this frame, behind these, a message has come of which this is taken
pub record CameAs (got : List Frame) (f : Frame) (reply : FromRight) : Type 0 where
  pub message : StageMessage
  pub come : HasCome got f (came.Whole message)
  pub is : reply ≡ from_right message
