-- What a tree comes to.
use Rattle.std.specs.Prelude.{◌≡◌, ◌⊎◌, ℕ, true, false, List, map, Option, Some, Ok, Err, ⊤}
use Rattle.calculus.specs.declared.change.DbChange.{DbChange}
use Rattle.calculus.specs.declared.reply.Column.{Column}
use Rattle.calculus.specs.declared.reply.Reply.TheVariants as reply
use Rattle.calculus.specs.declared.reply.Table.{Table as Printed}
use Rattle.calculus.specs.declared.request.Asked.{Asked}
use Rattle.calculus.specs.declared.request.Checked.{Checked}
use Rattle.calculus.specs.declared.request.Checked.TheVariants as checked
use Rattle.calculus.specs.declared.request.Update.{Update}
use Rattle.calculus.specs.Change.{IsLawful}
use Rattle.calculus.specs.Database.{Db}
use Rattle.calculus.specs.QueryParts.{targets_of}
use Rattle.calculus.specs.Replacement.{updated}
use Rattle.calculus.specs.Who.{Unrestricted, asker_of}
use Rattle.frame_codec.specs.declared.frame.Frame.{Frame}
use Rattle.network_meaning.specs.Sorts.{Cargo.change, Message.cargo}
use Rattle.quel_meaning.proofs.Each.{Each}
use Rattle.quel_meaning.specs.Copying.{refusal}
use Rattle.quel_meaning.specs.Fit.{is_fit}
use Rattle.quel_meaning.specs.Meaning.{answer_reply}
use Rattle.quel_meaning.specs.Tables.{column_of, some_query_lacks, table_of}
use Rattle.quel_network.specs.Spelling.{is_refusal_number, message_by}
use Rattle.quel_network.specs.TableFits.{TableStands}
use Rattle.quel_network.specs.Trees.{IsFitTree, sent_table}
use Rattle.quel_tree.specs.Changes.{change as change_codec}
use Rattle.quel_tree.specs.Message.{most_tree_levels}
use Rattle.quel_tree.specs.Relations.{columns as columns_codec}
use Rattle.stage_proc.specs.declared.processed.Processed.{Processed}
use Rattle.stage_proc.specs.declared.processed.Processed.TheVariants as processed
use Rattle.stage_proc.specs.declared.stopped.Stopped.{Stopped}
use Rattle.stage_proc.specs.declared.stopped.Stopped.TheVariants.{No}
use Rattle.stage_proc.specs.Sending.{answer_frames, refusal_frames}

-- ---- heads

-- the head of what a query asks for
abbrev pub head_of : Asked → List Column
head_of a = map column_of (targets_of a.query)

-- it has a spelling
abbrev pub HeadIsSpelled : Asked → Type 0
HeadIsSpelled a = columns_codec.Fits (head_of a)

-- the head of a table has a spelling
abbrev pub HasHead : Printed → Type 0
HasHead t = columns_codec.Fits t.columns

-- ---- what is shown

-- the tables have the heads of the queries, their rows stand behind them, and they are shown, with the end; where the database is known they are the answer
pub record ShowsTables (asked : List Asked) (known : Option Db) (frames : List Frame) : Type 0 where
  pub tables : List Printed
  pub heads : map (λ t. t.columns) tables ≡ map head_of asked
  pub stand : Each TableStands (map sent_table tables)
  pub are : frames ≡ answer_frames tables
  pub exact : (db : Db) → known ≡ Some db → answer_reply db Unrestricted asked ≡ reply.Tables tables

-- a refusal is shown; where the database is known this is its cause
pub record ShowsRefusal (cause : Db → ℕ → Type 0) (known : Option Db) (frames : List Frame) : Type 0 where
  pub number : ℕ
  pub among : is_refusal_number number ≡ true
  pub are : frames ≡ refusal_frames number
  pub exact : (db : Db) → known ≡ Some db → cause db number

-- these bytes are those of a change; where the database is known it is that of the update, and lawful
pub record HandsChange (u : Update) (known : Option Db) (bytes : List ℕ) : Type 0 where
  pub sent : DbChange
  pub fits : (change_codec most_tree_levels).Fits sent
  pub are : message_by 5 bytes ≡ Some (cargo (change sent))
  pub exact : (db : Db) → known ≡ Some db → (updated db Unrestricted u ≡ Ok sent) × IsLawful db sent

-- ---- trees

-- queries come to tables, or to a refusal
abbrev pub Answers : List Asked → Option Db → Processed → Type 0
Answers asked known (processed.Shows frames) = ShowsTables asked known frames ⊎ ShowsRefusal (λ db number. answer_reply db Unrestricted asked ≡ reply.Refused (refusal number)) known frames
Answers asked known (processed.Changes bytes) = ⊥
Answers asked known processed.HandsOn = ⊥

-- an update comes to a change, or to a refusal
abbrev pub Updates : Update → Option Db → Processed → Type 0
Updates u known (processed.Shows frames) = ShowsRefusal (λ db number. updated db Unrestricted u ≡ Err number) known frames
Updates u known (processed.Changes bytes) = HandsChange u known bytes
Updates u known processed.HandsOn = ⊥

-- what the utilities are asked for is handed on
abbrev pub IsHandedOn : Processed → Type 0
IsHandedOn (processed.Shows frames) = ⊥
IsHandedOn (processed.Changes bytes) = ⊥
IsHandedOn processed.HandsOn = ⊤

-- what a tree comes to
abbrev pub ComesTo : Checked → Option Db → Processed → Type 0
ComesTo (checked.Answer asked) known made = Answers asked known made
ComesTo (checked.Update u) known made = Updates u known made
ComesTo (checked.Utility work) known made = IsHandedOn made

-- it is fit where the database is known, and comes to this
pub record Comes (user : List ℕ) (tree : Checked) (known : Option Db) (made : Processed) : Type 0 where
  pub fit : (db : Db) → known ≡ Some db → is_fit db user tree ≡ true
  pub how : ComesTo tree known made

-- it isn't fit for a database that is known
abbrev pub IsUnfit : List ℕ → Checked → Option Db → Type 0
IsUnfit user tree known = (db : Db) → known ≡ Some db → IsFitTree (asker_of user) tree db → ⊥

-- none of the queries lacks a value, but a table that they come to doesn't stand
abbrev pub CannotBeShown : Db → List Asked → Type 0
CannotBeShown db asked = (some_query_lacks db Unrestricted asked ≡ false) × (Each TableStands (map sent_table (map (table_of db Unrestricted) asked)) → ⊥)

-- ---- parts

-- a refusal is shown by the number that stops the tree
abbrev pub IsRefused : Stopped → Processed → Type 0
IsRefused stopped made = (number : ℕ) × (stopped ≡ No number) × (made ≡ processed.Shows (refusal_frames number))

-- these bytes are those of a change that has a spelling, and that is this one where this one has one
abbrev pub IsSentAs : DbChange → List ℕ → Type 0
IsSentAs c bytes = (sent : DbChange) × (change_codec most_tree_levels).Fits sent × (bytes ≡ (change_codec most_tree_levels).write sent) × ((change_codec most_tree_levels).Fits c → sent ≡ c)

-- the change is handed on
abbrev pub IsHanded : DbChange → Processed → Type 0
IsHanded c (processed.Shows frames) = ⊥
IsHanded c (processed.Changes bytes) = IsSentAs c bytes
IsHanded c processed.HandsOn = ⊥
