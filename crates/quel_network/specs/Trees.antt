-- What statements, trees and changes mean for the stages.
use Rattle.std.specs.Prelude.{◌≡◌, ℕ, true, List, [], map, Option, Some, None, Result, Ok, Err}
use Rattle.calculus.specs.declared.change.DbChange.{DbChange}
use Rattle.calculus.specs.declared.reply.Column.{Column}
use Rattle.calculus.specs.declared.reply.Reply.{Reply}
use Rattle.calculus.specs.declared.reply.Reply.TheVariants as reply
use Rattle.calculus.specs.declared.reply.Table.{Table as Printed}
use Rattle.calculus.specs.declared.request.Checked.{Checked}
use Rattle.calculus.specs.declared.request.Checked.TheVariants as checked
use Rattle.calculus.specs.declared.schema.RelInfo.{RelInfo}
use Rattle.calculus.specs.declared.statement.Statement.{Statement}
use Rattle.calculus.specs.declared.statement.Statement.TheVariants.{Range}
use Rattle.calculus.specs.Change.{IsLawful}
use Rattle.calculus.specs.Database.{Db}
use Rattle.calculus.specs.Finding.{found}
use Rattle.calculus.specs.IsDatabase.{IsDatabase}
use Rattle.calculus.specs.QueryParts.{targets_of}
use Rattle.calculus.specs.Who.{Unrestricted, Asker, AsUser}
use Rattle.fault_io.specs.Files.{Files}
use Rattle.network_meaning.specs.Sorts.{Table, Outcome, Meaning, Next, Kind}
use Rattle.network_meaning.specs.Sorts.{Outcome.tables, Outcome.made, Outcome.refuses, Meaning.names, Meaning.objects, Meaning.runs, Next.no_more, Next.bad, Next.found as read_next, Kind.answer, Kind.update, Kind.utility}
use Rattle.quel_grammar.specs.Next.{Next as Read, Nothing, Read as WasRead, Syntax, Reading, line_at}
use Rattle.quel_meaning.specs.Batch.{statement_at}
use Rattle.quel_meaning.specs.Copying.{refusal}
use Rattle.quel_meaning.specs.Fit.{is_fit}
use Rattle.quel_meaning.specs.Meaning.{Effect, tree_meaning, ruled_tree, checked_tree}
use Rattle.quel_meaning.specs.Ranges.{Ranges, declared}
use Rattle.quel_meaning.specs.Tables.{column_of}
use Rattle.quel_tree.specs.Changes.{change}
use Rattle.quel_tree.specs.Message.{most_tree_levels}
use Rattle.quel_tree.specs.Requests.{checked as checked_codec}
use Rattle.quel_network.specs.Sorts.{Batch, quel_sorts}

-- ---- what a tree comes to

-- a table, as it is sent
abbrev pub sent_table : Printed → Table quel_sorts
sent_table t = record { top = t.columns; rows = t.rows }

-- what was carried out: tables, a database and files, or a refusal
abbrev pub outcome_by : Db → Files → Reply → Outcome quel_sorts
outcome_by db shelf reply.Nothing = made db shelf
outcome_by db shelf reply.Done = made db shelf
outcome_by db shelf (reply.Refused r) = refuses r
outcome_by db shelf (reply.Tables ts) = tables (map sent_table ts)

-- the outcome of an effect
abbrev pub outcome_of_effect : Effect → Outcome quel_sorts
outcome_of_effect e = outcome_by e.db e.shelf e.reply

-- what a tree comes to that whoever is unrestricted asks for; the utilities work for the user
unfoldable pub outcome_of_tree : Asker → Checked → Db → Files → Outcome quel_sorts
outcome_of_tree asker tree db shelf = outcome_of_effect (tree_meaning db shelf Unrestricted asker.user tree)

-- what a tree asks for
abbrev pub kind_of_tree : Checked → Kind
kind_of_tree (checked.Answer asked) = answer
kind_of_tree (checked.Update u) = update
kind_of_tree (checked.Utility work) = utility

-- the heads of what a tree asks for: the columns of each query's targets
abbrev pub heads_of_tree : Checked → List (List Column)
heads_of_tree (checked.Answer asked) = map (λ a. map column_of (targets_of a.query)) asked
heads_of_tree (checked.Update u) = []
heads_of_tree (checked.Utility work) = []

-- ---- what a statement means

-- the variable ranges over what was found; refused where that is nothing
abbrev pub range_meaning : Ranges → List ℕ → Option RelInfo → Meaning quel_sorts
range_meaning ranges var None = objects (refusal 10)
range_meaning ranges var (Some info) = names (declared ranges var info.key)

-- what a checked tree comes to for the one who asks, with the rules of the relation that it changes; or the number that refuses the statement
abbrev pub checked_meaning : Asker → Db → Files → Result Checked ℕ → Meaning quel_sorts
checked_meaning asker db shelf (Err number) = objects (refusal number)
checked_meaning asker db shelf (Ok tree) = runs (outcome_of_effect (tree_meaning db shelf (AsUser asker) asker.user (ruled_tree db tree)))

-- what a statement means for the one who asks
unfoldable pub meaning_of : Asker → Db → Files → Ranges → Statement → Meaning quel_sorts
meaning_of asker db shelf ranges (Range var rel) = range_meaning ranges var (found db asker.user rel)
meaning_of asker db shelf ranges s = checked_meaning asker db shelf (checked_tree db asker ranges s)

-- ---- batches

-- what is read next of a batch: nothing, a syntax refusal at its line, or a statement with the line of its first token, and the batch from its end on
abbrev pub next_of : Batch → Read → Next quel_sorts
next_of b Nothing = no_more
next_of b (WasRead statement end) = read_next statement (statement_at b.text b.from statement).line (record { text = b.text; from = end })
next_of b (Syntax place) = bad (record { code = 1; line = line_at b.text place; row = 0 })

-- the next statement of a batch
unfoldable pub next_in : Reading → Batch → Next quel_sorts
next_in reading b = next_of b (reading b.text b.from)

-- ---- what travels

-- a tree suits a database and a user, has a spelling, and the database is one
pub record IsFitTree (asker : Asker) (tree : Checked) (db : Db) : Type 0 where
  pub fit : is_fit db asker.user tree ≡ true
  pub spelled : (checked_codec most_tree_levels).Fits tree
  pub database : IsDatabase db

-- a change is lawful for a database, and has a spelling
pub record IsFitChange (c : DbChange) (db : Db) : Type 0 where
  pub lawful : IsLawful db c
  pub spelled : (change most_tree_levels).Fits c
