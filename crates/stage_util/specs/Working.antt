-- What carrying something out comes to.
use Rattle.std.specs.Prelude.{◌≡◌, ◌⊎◌, ◌≤◌, ℕ, true, List, Some, None, Result, Ok, Err, ⊤}
use Rattle.std.specs.declared.option.Option.{Option}
use Rattle.base_trait.specs.Crashes.{LeavesBut, AllDenote}
use Rattle.base_trait.specs.declared.fault.BaseFault.{BaseFault}
use Rattle.base_trait.specs.declared.fault.BaseFault.TheVariants as base_faults
use Rattle.calculus.specs.declared.reply.Reply.TheVariants as reply
use Rattle.calculus.specs.declared.request.Checked.TheVariants as checked
use Rattle.calculus.specs.Change.{IsLawful, laid}
use Rattle.calculus.specs.Database.{Db}
use Rattle.calculus.specs.Who.{Unrestricted}
use Rattle.fault_io.specs.Causes.{Rose}
use Rattle.fault_io.specs.Files.{Files, stored}
use Rattle.fault_io.specs.Shelves.{MayHaveStored}
use Rattle.frame_codec.specs.declared.frame.Frame.{Frame}
use Rattle.frame_codec.specs.Messages.{message_frames}
use Rattle.net_core.specs.Crashes.{IsForgotten}
use Rattle.net_core.specs.declared.fault.WorkFault.{WorkFault}
use Rattle.net_core.specs.declared.fault.WorkFault.TheVariants as faults
use Rattle.net_core.specs.Known.{Outside}
use Rattle.network_meaning.specs.Frames.{kind_of}
use Rattle.network_meaning.specs.Sorts.{Cargo, Cargo.tree, Cargo.change, Message, Message.said, Reply.done, Reply.refused, Said.replied}
use Rattle.quel_meaning.specs.Fit.{is_fit}
use Rattle.quel_meaning.specs.Meaning.{Effect, tree_meaning}
use Rattle.quel_network.specs.RefusalLaws.{HasSpelling}
use Rattle.quel_network.specs.Sorts.{quel_sorts}
use Rattle.quel_network.specs.Spelling.{payload_of}
use Rattle.stage_util.specs.declared.at.At.{At}
use Rattle.stage_util.specs.declared.at.At.TheVariants as at
use Rattle.stage_util.specs.declared.carried.Carried.{Carried}
use Rattle.stage_util.specs.declared.carried.Carried.TheVariants as carried

-- ---- faults

-- the fault of a call of the database, as one of a piece of work
abbrev pub of_base : BaseFault → WorkFault
of_base base_faults.Disk = faults.Disk
of_base (base_faults.Damaged file page) = faults.Damaged file page
of_base base_faults.OutOfMemory = faults.OutOfMemory

-- this fault may come of a database, which is known or isn't, and a shelf: of the disk or the shelf where its count rose, of damage where no database is known; no other count rose
abbrev pub MayComeHere : Option Db → ℕ → ℕ → ℕ → ℕ → WorkFault → Type 0
MayComeHere known before now shelf_before shelf_now faults.Disk = Rose before now × (shelf_now ≡ shelf_before)
MayComeHere known before now shelf_before shelf_now (faults.Damaged file page) = (known ≡ None) × (now ≡ before) × (shelf_now ≡ shelf_before)
MayComeHere known before now shelf_before shelf_now faults.Shelf = (now ≡ before) × Rose shelf_before shelf_now
MayComeHere known before now shelf_before shelf_now faults.Unlawful = (now ≡ before) × (shelf_now ≡ shelf_before)
MayComeHere known before now shelf_before shelf_now faults.OutOfMemory = (now ≡ before) × (shelf_now ≡ shelf_before)
MayComeHere known before now shelf_before shelf_now faults.Source = ⊥
MayComeHere known before now shelf_before shelf_now faults.Sink = ⊥
MayComeHere known before now shelf_before shelf_now faults.TooLong = ⊥

-- an answer where the counts stayed, or a fault that may come
abbrev pub IsCausedHere : {T : Type 0} → Option Db → ℕ → ℕ → ℕ → ℕ → Result T WorkFault → Type 0
IsCausedHere known before now shelf_before shelf_now (Ok x) = (now ≡ before) × (shelf_now ≡ shelf_before)
IsCausedHere known before now shelf_before shelf_now (Err fault) = MayComeHere known before now shelf_before shelf_now fault

-- the counts never fall, an answer comes only where they stayed, and a fault only where it may
pub record HasWorkCause {T : Type 0} (known : Option Db) (before now shelf_before shelf_now : ℕ) (result : Result T WorkFault) : Type 0 where
  pub later : before ≤ now
  pub shelf_later : shelf_before ≤ shelf_now
  pub caused : IsCausedHere known before now shelf_before shelf_now result

-- after any fault but one of the disk or a damaged page the database is as it was
abbrev pub SparesDatabase : Option Db → Option Db → WorkFault → Type 0
SparesDatabase old new faults.Disk = ⊤
SparesDatabase old new (faults.Damaged file page) = ⊤
SparesDatabase old new _ = new ≡ old

-- ---- what is known of a base before and now

-- the database where it is known, the schema that is known now, the clock of the disk below, and what a crash may leave
pub record Span : Type 1 where
  pub old : Option Db
  pub new : Option Db
  pub schema : Option Db
  pub before : ℕ
  pub now : ℕ
  pub left_before : ℕ → Option Db → Type 0
  pub left_now : ℕ → Option Db → Type 0

-- from one base to another
abbrev pub span : {B : Type 0} → (B → Option Db) → (B → Option Db) → (B → ℕ) → (B → ℕ → Option Db → Type 0) → B → B → Span
span database schema clock left before now = record {
  old = database before;
  new = database now;
  schema = schema now;
  before = clock before;
  now = clock now;
  left_before = left before;
  left_now = left now;
}

-- nothing was changed: the database is as it was, and a crash leaves nothing else
pub record Kept (s : Span) : Type 0 where
  pub same : s.new ≡ s.old
  pub crash : LeavesBut (λ o. ⊥) s.before s.now s.left_before s.left_now

-- nothing was changed, and the base was handed over
pub record HandedOver (s : Span) : Type 0 where
  pub kept : Kept s
  pub stands : (db : Db) → AllDenote s.before s.left_before db → AllDenote s.now s.left_now db
  pub handed : IsForgotten s.schema s.new

-- ---- what is carried out

-- what a tree or a change comes to; the utilities work for the user
abbrev pub effect : List ℕ → Cargo quel_sorts → Db → Files → Effect
effect user (tree t) db files = tree_meaning db files Unrestricted user t
effect user (change c) db files = record { db = laid db c; shelf = files; reply = reply.Done }

-- a utility is fit for the database and the user, or a change is lawful
abbrev pub FitsFor : List ℕ → Cargo quel_sorts → Db → Type 0
FitsFor user (tree (checked.Utility work)) db = is_fit db user (checked.Utility work) ≡ true
FitsFor user (tree (checked.Answer asked)) db = ⊥
FitsFor user (tree (checked.Update u)) db = ⊥
FitsFor user (change c) db = IsLawful db c

-- it is a utility, or a change
abbrev pub IsForFour : Cargo quel_sorts → Type 0
IsForFour (tree (checked.Utility work)) = ⊤
IsForFour (tree (checked.Answer asked)) = ⊥
IsForFour (tree (checked.Update u)) = ⊥
IsForFour (change c) = ⊤

-- the message of the answer
abbrev pub answer_of : Carried → Message quel_sorts
answer_of carried.Done = said (replied done)
answer_of (carried.Refused r) = said (replied (refused r))

-- its frames
abbrev pub frames_of : Carried → List Frame
frames_of c = message_frames (kind_of (answer_of c)) (payload_of (answer_of c))

-- it may be the answer to this: only a utility is refused, and by what has a spelling
abbrev pub MayAnswer : Cargo quel_sorts → Carried → Type 0
MayAnswer x carried.Done = ⊤
MayAnswer (tree t) (carried.Refused r) = HasSpelling r
MayAnswer (change c) (carried.Refused r) = ⊥

-- where these were the database and the files, this is left of both, and the answer is the reply to it
abbrev pub Leaves : List ℕ → Cargo quel_sorts → Db → Files → Option Db → Option Files → Carried → Type 0
Leaves user x db files new files_now carried.Done = (db' : Db) × (files' : Files) × (new ≡ Some db') × (files_now ≡ Some files') × (effect user x db files ≡ record { db = db'; shelf = files'; reply = reply.Done })
Leaves user x db files new files_now (carried.Refused r) = (new ≡ Some db) × (files_now ≡ Some files) × (effect user x db files ≡ record { db = db; shelf = files; reply = reply.Refused r })

-- it makes this database of those
abbrev pub Makes : List ℕ → Cargo quel_sorts → Db → Files → Option Db → Type 0
Makes user x db files o = (db' : Db) × (files' : Files) × (o ≡ Some db') × (effect user x db files ≡ record { db = db'; shelf = files'; reply = reply.Done })

-- it stores a file, and this one alone may have been stored
abbrev pub MayStoreOf : List ℕ → Cargo quel_sorts → Db → Files → Option Files → Type 0
MayStoreOf user x db files now = (name : List ℕ) × (bytes : List ℕ) × (db' : Db) × (effect user x db files ≡ record { db = db'; shelf = stored files name bytes; reply = reply.Done }) × MayHaveStored name bytes files now

-- it was carried out or refused, with this answer, and the base was handed over
pub record Did (user : List ℕ) (x : Cargo quel_sorts) (s : Span) (files files' : Option Files) (c : Carried) : Type 0 where
  pub fits : (db : Db) → s.old ≡ Some db → FitsFor user x db
  pub is_for_four : IsForFour x
  pub answers : MayAnswer x c
  pub leaves : (db : Db) (fs : Files) → s.old ≡ Some db → files ≡ Some fs → Leaves user x db fs s.new files' c
  pub known : (db : Db) → s.old ≡ Some db → (db' : Db) × (s.new ≡ Some db')
  pub crash : (db : Db) (fs : Files) → s.old ≡ Some db → files ≡ Some fs → LeavesBut (Makes user x db fs) s.before s.now s.left_before s.left_now
  pub durable : (db db' : Db) → s.old ≡ Some db → s.new ≡ Some db' → AllDenote s.before s.left_before db → AllDenote s.now s.left_now db'
  pub handed : IsForgotten s.schema s.new

-- it was not carried out: it isn't fit, or a part failed; where database and files were known, the database that is known is the one of before or of after, and no file differs but the one that is stored; nor does another where the database isn't known
pub record DidNot (user : List ℕ) (x : Cargo quel_sorts) (s : Span) (files files' : Option Files) (f : WorkFault) : Type 0 where
  pub unfit : f ≡ faults.Unlawful → (db : Db) (fs : Files) → s.old ≡ Some db → files ≡ Some fs → FitsFor user x db → ⊥
  pub spares : SparesDatabase s.old s.new f
  pub database : (db now : Db) (fs : Files) → s.old ≡ Some db → files ≡ Some fs → s.new ≡ Some now → (now ≡ db) ⊎ Makes user x db fs (Some now)
  pub part : (db : Db) (fs : Files) → s.old ≡ Some db → files ≡ Some fs → (files' ≡ Some fs) ⊎ MayStoreOf user x db fs files'
  pub files_left : (fs : Files) → files ≡ Some fs → (files' ≡ Some fs) ⊎ ((db : Db) × MayStoreOf user x db fs files')
  pub crash : (db : Db) (fs : Files) → s.old ≡ Some db → files ≡ Some fs → LeavesBut (Makes user x db fs) s.before s.now s.left_before s.left_now

-- it was carried out, or it was not
abbrev pub Carries : List ℕ → Cargo quel_sorts → Span → Option Files → Option Files → Result Carried WorkFault → Type 0
Carries user x s files files' (Ok c) = Did user x s files files' c
Carries user x s files files' (Err f) = DidNot user x s files files' f

-- the same of what is in the stage's hands
abbrev pub CarriesAt : List ℕ → At → Span → Option Files → Option Files → Result Carried WorkFault → Type 0
CarriesAt user (at.Tree t) s files files' result = Carries user (tree t) s files files' result
CarriesAt user (at.Change c) s files files' result = Carries user (change c) s files files' result
CarriesAt user at.Idle s files files' result = ⊤
CarriesAt user at.Ended s files files' result = ⊤

-- ---- the room before and now

-- what a piece of work has left of a room: the database, what is known of the schema, how often its calls failed, the clock of its disk and how many pages were read, the files, how often calls of the shelf failed, and what a crash might and may leave
pub record After : Type 1 where
  pub database : Option Db
  pub schema : Option Db
  pub base_faults : ℕ
  pub clock : ℕ
  pub reads : ℕ
  pub files : Option Files
  pub shelf_faults : ℕ
  pub left_before : ℕ → Option Db → Type 0
  pub left_now : ℕ → Option Db → Type 0

-- the outside as it is then: the source and the sink are as they were
abbrev pub outside_after : Outside → After → Outside
outside_after o a = record o { database = a.database; base_faults = a.base_faults; clock = a.clock; reads = a.reads; files = a.files; shelf_faults = a.shelf_faults }

-- the base from before to then
abbrev pub span_of : Outside → After → Span
span_of o a = record { old = o.database; new = a.database; schema = a.schema; before = o.clock; now = a.clock; left_before = a.left_before; left_now = a.left_now }
