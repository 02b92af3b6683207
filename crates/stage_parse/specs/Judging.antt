-- What is said of what comes of a statement.
use Rattle.std.specs.Prelude.{◌≡◌, ℕ, List, [], Option, Some, None, ⊤}
use Rattle.calculus.specs.declared.reply.Refusal.{Refusal}
use Rattle.calculus.specs.declared.request.Checked.{Checked}
use Rattle.calculus.specs.declared.schema.RelInfo.{RelInfo}
use Rattle.calculus.specs.declared.statement.Statement.{Statement}
use Rattle.calculus.specs.Database.{Db}
use Rattle.calculus.specs.Who.{asker_of}
use Rattle.fault_io.specs.Files.{Files}
use Rattle.frame_codec.specs.declared.frame.Frame.{Frame}
use Rattle.frame_codec.specs.declared.message.Message.{Message}
use Rattle.frame_codec.specs.Messages.{message_frames}
use Rattle.network_meaning.specs.Sorts.{Message as Sent, Cargo.tree, Reply.refused, Said.replied, Message.cargo, Message.said, Meaning.names, Meaning.objects, Meaning.runs}
use Rattle.quel_grammar.specs.Next.{Read}
use Rattle.quel_grammar.specs.NextReader.{next_at}
use Rattle.quel_meaning.specs.Ranges.{Ranges, declared}
use Rattle.quel_network.specs.Sorts.{quel_sorts}
use Rattle.quel_network.specs.Spelling.{message_by}
use Rattle.quel_network.specs.Trees.{IsFitTree, meaning_of, outcome_of_tree}
use Rattle.stage_parse.specs.declared.judged.Judged.{Judged}
use Rattle.stage_parse.specs.declared.judged.Judged.TheVariants as judged

-- the statement is read of some text
pub record WasRead (s : Statement) : Type 0 where
  pub text : List ℕ
  pub from : ℕ
  pub end : ℕ
  pub is : next_at text from ≡ Read s end

-- its bytes are read as this message, by its kind
abbrev pub Spells : Message → Sent quel_sorts → Type 0
Spells m sent = message_by m.kind m.bytes ≡ Some sent

-- the refusal, with this line
abbrev pub refused_at : ℕ → Refusal → Sent quel_sorts
refused_at line r = said (replied (refused (record r { line = line })))

-- the refusal by this number that concerns no row, with this line
abbrev pub IsRefused : ℕ → ℕ → Message → Type 0
IsRefused number line m = Spells m (refused_at line (record { code = number; line = line; row = 0 }))

-- ---- whatever is known

-- some refusal with this line
pub record IsRefusal (line : ℕ) (m : Message) : Type 0 where
  pub refusal : Refusal
  pub spells : Spells m (refused_at line refusal)

-- some tree
pub record IsTree (m : Message) : Type 0 where
  pub asked : Checked
  pub spells : Spells m (cargo (tree asked))

-- what is sent is a refusal with this line, or a tree
abbrev pub IsShaped : ℕ → Judged → Type 0
IsShaped line judged.Declared = ⊤
IsShaped line (judged.Refused m) = IsRefusal line m
IsShaped line (judged.Asks m) = IsTree m

-- only a declaration changes the range variables
abbrev pub KeepsRanges : Ranges → Ranges → Judged → Type 0
KeepsRanges old new judged.Declared = ⊤
KeepsRanges old new _ = new ≡ old

-- ---- where the database is known

-- the variable ranges over what was found; refused by 10 where that is nothing
abbrev pub IsDeclared : Ranges → List ℕ → Option RelInfo → ℕ → Ranges → Judged → Type 0
IsDeclared ranges var (Some info) line ranges' judged.Declared = ranges' ≡ declared ranges var info.key
IsDeclared ranges var None line ranges' (judged.Refused m) = IsRefused 10 line m
IsDeclared ranges var _ line ranges' _ = ⊥

-- this very tree is sent
abbrev pub SendsTree : Checked → Judged → Type 0
SendsTree t (judged.Asks m) = Spells m (cargo (tree t))
SendsTree t _ = ⊥

-- the refusal that is sent, with this line, is the statement's
pub record RefusesIt (db : Db) (user : List ℕ) (ranges : Ranges) (s : Statement) (line : ℕ) (m : Message) : Type 0 where
  pub refusal : Refusal
  pub spells : Spells m (refused_at line refusal)
  pub means : (shelf : Files) → meaning_of (asker_of user) db shelf ranges s ≡ objects refusal

-- the tree that is sent is fit for the database and the user, and comes to what the statement means
pub record AsksIt (db : Db) (user : List ℕ) (ranges : Ranges) (s : Statement) (m : Message) : Type 0 where
  pub asked : Checked
  pub spells : Spells m (cargo (tree asked))
  pub fit : IsFitTree (asker_of user) asked db
  pub means : (shelf : Files) → meaning_of (asker_of user) db shelf ranges s ≡ runs (outcome_of_tree (asker_of user) asked db shelf)

-- what comes of a statement is what it means for the user
abbrev pub Judges : Db → List ℕ → Ranges → Statement → ℕ → Ranges → Judged → Type 0
Judges db user ranges s line ranges' judged.Declared = (shelf : Files) → meaning_of (asker_of user) db shelf ranges s ≡ names ranges'
Judges db user ranges s line ranges' (judged.Refused m) = RefusesIt db user ranges s line m
Judges db user ranges s line ranges' (judged.Asks m) = AsksIt db user ranges s m

-- ---- what is given then

-- what is given to the left: a refusal
abbrev pub left_frames : Judged → List Frame
left_frames judged.Declared = []
left_frames (judged.Refused m) = message_frames m.kind m.bytes
left_frames (judged.Asks m) = []

-- what is given to the right: a tree
abbrev pub right_frames : Judged → List Frame
right_frames judged.Declared = []
right_frames (judged.Refused m) = []
right_frames (judged.Asks m) = message_frames m.kind m.bytes
