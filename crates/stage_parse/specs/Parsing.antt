-- What the parser has done at what is next in its batch.
use Rattle.std.specs.Prelude.{◌≡◌, ℕ, List, ◌++◌, Option, Some}
use Rattle.calculus.specs.Database.{Db}
use Rattle.frame_codec.specs.declared.frame.Frame.{Frame}
use Rattle.frame_codec.specs.Messages.{message_frames}
use Rattle.network_meaning.specs.Language.{Language}
use Rattle.network_meaning.specs.LocalSteps.{Act, Room, Works}
use Rattle.network_meaning.specs.Network.{LocalState, done_act}
use Rattle.network_meaning.specs.Sorts.{Message}
use Rattle.network_meaning.specs.WorkShape.{WorkShape}
use Rattle.quel_grammar.specs.Next.{Syntax, line_at}
use Rattle.quel_grammar.specs.NextReader.{next_at}
use Rattle.quel_network.specs.Sorts.{Batch, quel_sorts}
use Rattle.quel_network.specs.Spelling.{message_by}
use Rattle.stage_parse.specs.declared.at.At.{At}
use Rattle.stage_parse.specs.declared.at.At.TheVariants as at
use Rattle.stage_parse.specs.declared.judged.Judged.{Judged}
use Rattle.stage_parse.specs.declared.judged.Judged.TheVariants as judged
use Rattle.stage_parse.specs.declared.parser.Parser.{Parser}
use Rattle.stage_parse.specs.Standing.{standing}

-- it has parsed on: its act has the shape of such work, and is the network's in each room whose database is the one that is known
pub record HasParsed (L : Language quel_sorts) (s s' : LocalState quel_sorts) (known : Option Db) : Type 0 where
  pub act : Act quel_sorts
  pub is : s' ≡ done_act L s act s.got_left s.got_right
  pub shape : WorkShape L s.mode act
  pub exact : (room : Room quel_sorts) → known ≡ Some room.db → Works L s.mode room act room

-- the message is behind the frames that are to be given
pub record Gives (m : Message quel_sorts) (old new : List Frame) : Type 0 where
  pub kind : ℕ
  pub bytes : List ℕ
  pub spells : message_by kind bytes ≡ Some m
  pub behind : new ≡ old ++ message_frames kind bytes

-- what is next in the batch is no statement, and the token that none has there has this line
pub record IsBad (b : Batch) (line : ℕ) : Type 0 where
  pub place : ℕ
  pub is : next_at b.text b.from ≡ Syntax place
  pub line_is : line ≡ line_at b.text place

-- where it stands behind a statement of this line
abbrev pub at_behind : ℕ → Judged → At
at_behind line judged.Declared = at.Parsing
at_behind line (judged.Refused m) = at.Parsing
at_behind line (judged.Asks m) = at.Passing line

-- where the parser stands
abbrev pub stands : Parser → LocalState quel_sorts
stands p = standing p.ranges p.at p.walk p.got_left p.got_right p.out_left p.out_right
