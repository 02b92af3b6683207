-- What a statement means: the database, the shelf and the ranges after it, and its reply.
use Rattle.std.specs.Prelude.{ℕ, Bool, true, false, List, [], ◌∷◌, map, Option, Some, None, Result, Ok, Err}
use Rattle.std.specs.List.{list_all}
use Rattle.calculus.specs.declared.request.Asked.{Asked}
use Rattle.calculus.specs.declared.request.Checked.{Checked}
use Rattle.calculus.specs.declared.request.Checked.TheVariants.{Answer, Update, Utility}
use Rattle.calculus.specs.declared.request.Utility.TheVariants.{Copy}
use Rattle.calculus.specs.declared.request.Utility.{Utility as Work}
use Rattle.calculus.specs.declared.request.CopyCol.{CopyCol}
use Rattle.calculus.specs.declared.query.RelKey.{RelKey}
use Rattle.calculus.specs.declared.change.DbChange.{DbChange}
use Rattle.calculus.specs.declared.reply.Refusal.{Refusal}
use Rattle.calculus.specs.declared.reply.Reply.{Reply}
use Rattle.calculus.specs.declared.reply.Reply.TheVariants.{Nothing, Done, Refused, Tables}
use Rattle.calculus.specs.declared.schema.RelInfo.{RelInfo}
use Rattle.calculus.specs.declared.statement.Statement.{Statement}
use Rattle.calculus.specs.declared.statement.Statement.TheVariants.{Range}
use Rattle.calculus.specs.Who.{Who, Asker, AsUser}
use Rattle.calculus.specs.Database.{Db}
use Rattle.calculus.specs.Finding.{found}
use Rattle.calculus.specs.Permission.{query_permitted, update_permitted}
use Rattle.calculus.specs.Pairs.{ruled}
use Rattle.calculus.specs.Replacement.{updated}
use Rattle.calculus.specs.Change.{laid}
use Rattle.fault_io.specs.Files.{Files, stored}
use Rattle.quel_meaning.specs.Ranges.{Ranges, declared}
use Rattle.quel_meaning.specs.State.{State, Outcome}
use Rattle.quel_meaning.specs.Resolved.{resolved}
use Rattle.quel_meaning.specs.Planned.{planned}
use Rattle.quel_meaning.specs.Copying.{copied_from, copied_into, file_of_constant, refusal}
use Rattle.quel_meaning.specs.Tables.{table_of, some_query_lacks}

-- ---- trees

-- what stands after a tree was carried out, and its reply, whose refusal has the line 0
pub record Effect : Type 0 where
  pub db : Db
  pub shelf : Files
  pub reply : Reply

-- nothing changes, and this is the reply
abbrev pub unchanged : Db → Files → Reply → Effect
unchanged db shelf reply = record { db = db; shelf = shelf; reply = reply }

-- the database after the change; or it is refused
abbrev pub change_effect : Db → Files → Result DbChange Refusal → Effect
change_effect db shelf (Ok change) = record { db = laid db change; shelf = shelf; reply = Done }
change_effect db shelf (Err r) = unchanged db shelf (Refused r)

-- the same, where a number says what refuses it
abbrev pub numbered_effect : Db → Files → Result DbChange ℕ → Effect
numbered_effect db shelf (Ok change) = change_effect db shelf (Ok change)
numbered_effect db shelf (Err number) = change_effect db shelf (Err (refusal number))

-- the shelf with these bytes in the file; or it is refused
abbrev pub file_effect : Db → Files → List ℕ → Result (List ℕ) Refusal → Effect
file_effect db shelf file (Ok bytes) = record { db = db; shelf = stored shelf file bytes; reply = Done }
file_effect db shelf file (Err r) = unchanged db shelf (Refused r)

-- the tables of these queries, in their order; refused where one of them lacks a value
abbrev pub answer_reply : Db → Who → List Asked → Reply
answer_reply db who asked = elim (some_query_lacks db who asked) [ true ↦ Refused (refusal 20) | false ↦ Tables (map (table_of db who) asked) ]

-- rows are copied from a file into the relation, or from the relation into a file
abbrev pub copy_effect : Db → Files → List ℕ → RelKey → List CopyCol → Bool → List ℕ → Effect
copy_effect db shelf user rel columns true constant = change_effect db shelf (copied_from db shelf user rel columns constant)
copy_effect db shelf user rel columns false constant = file_effect db shelf (file_of_constant constant) (copied_into db user rel columns)

-- what the utilities do for the user
unfoldable pub utility_effect : Db → Files → List ℕ → Work → Effect
utility_effect db shelf user (Copy rel columns from constant) = copy_effect db shelf user rel columns from constant
utility_effect db shelf user work = numbered_effect db shelf (planned db user work)

-- what a tree means for the one who asks; the utilities work for the user
unfoldable pub tree_meaning : Db → Files → Who → List ℕ → Checked → Effect
tree_meaning db shelf who user (Answer asked) = unchanged db shelf (answer_reply db who asked)
tree_meaning db shelf who user (Update u) = numbered_effect db shelf (updated db who u)
tree_meaning db shelf who user (Utility work) = utility_effect db shelf user work

-- all that the queries or the update of a tree read and change is permitted; the utilities ask for the owner themselves
unfoldable pub checked_permitted : Db → Who → Checked → Bool
checked_permitted db who (Answer asked) = list_all (λ a. query_permitted db who a.query) asked
checked_permitted db who (Update u) = update_permitted db who u
checked_permitted db who (Utility work) = true

-- the tree with the rules of the relation that it changes
unfoldable pub ruled_tree : Db → Checked → Checked
ruled_tree db (Answer asked) = Answer asked
ruled_tree db (Update u) = Update (ruled db u)
ruled_tree db (Utility work) = Utility work

-- ---- what a statement asks for, checked

-- what a statement is found to be: its tree, or the number of what refuses it
abbrev pub Resolving : Type 0
Resolving = Db → List ℕ → Ranges → Statement → Result Checked ℕ

-- the tree, where all is permitted; else 23
abbrev pub permitted_tree : Bool → Checked → Result Checked ℕ
permitted_tree true tree = Ok tree
permitted_tree false tree = Err 23

-- the tree of a statement, where all that it reads and changes is permitted to the one who asks; else 23
abbrev pub tree_if_permitted : Db → Asker → Result Checked ℕ → Result Checked ℕ
tree_if_permitted db asker (Err number) = Err number
tree_if_permitted db asker (Ok tree) = permitted_tree (checked_permitted db (AsUser asker) tree) tree

-- what a statement asks for: its tree, or the number of what refuses it before the tree is handed on; what utilities refuse of it is checked later
unfoldable pub checked_tree_by : Resolving → Db → Asker → Ranges → Statement → Result Checked ℕ
checked_tree_by resolved db asker ranges s = tree_if_permitted db asker (resolved db asker.user ranges s)

-- the same, resolved as statements are
abbrev pub checked_tree : Db → Asker → Ranges → Statement → Result Checked ℕ
checked_tree db asker ranges s = checked_tree_by resolved db asker ranges s

-- ---- statements

-- nothing changes, and the statement is refused
abbrev pub refused_outcome : State → ℕ → Outcome
refused_outcome state number = record { state = state; reply = Refused (refusal number) }

-- the variable ranges over what was found; refused where that is nothing
abbrev pub range_outcome : State → List ℕ → Option RelInfo → Outcome
range_outcome state var None = refused_outcome state 10
range_outcome state var (Some info) = record { state = record state { ranges = declared state.ranges var info.key }; reply = Nothing }

-- what was carried out, with the ranges of before
abbrev pub with_ranges : Ranges → Effect → Outcome
with_ranges ranges e = record { state = record { db = e.db; shelf = e.shelf; ranges = ranges }; reply = e.reply }

-- what a checked tree means for the one who asks, with the rules of the relation that it changes; or the statement is refused
abbrev pub checked_outcome : State → Asker → Result Checked ℕ → Outcome
checked_outcome state asker (Err number) = refused_outcome state number
checked_outcome state asker (Ok tree) =
    with_ranges state.ranges (tree_meaning state.db state.shelf (AsUser asker) asker.user (ruled_tree state.db tree))

-- the statement declares a range variable
abbrev pub is_range : Statement → Bool
is_range (Range var rel) = true
is_range s = false

-- what a statement does for the one who asks
unfoldable pub meaning_by : Resolving → State → Asker → Statement → Outcome
meaning_by resolved state asker (Range var rel) = range_outcome state var (found state.db asker.user rel)
meaning_by resolved state asker s = checked_outcome state asker (checked_tree_by resolved state.db asker state.ranges s)

-- what a statement does for the one who asks, resolved as statements are
abbrev pub meaning : State → Asker → Statement → Outcome
meaning state asker s = meaning_by resolved state asker s

-- what statements do that run one after the other, each on what the one before left
unfoldable pub statements_run : (State → Statement → Outcome) → State → List Statement → List Outcome
statements_run step state [] = []
statements_run step state (s ∷ ss) = let first = step state s in first ∷ statements_run step first.state ss
