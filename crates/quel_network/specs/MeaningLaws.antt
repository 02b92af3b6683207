-- What a statement leaves and prints, by what it means for the stages: the laws.
use Rattle.std.proofs.Common.{◌≡◌, refl, ap, ◌∙◌, ℕ, Bool, true, false, List, [], ◌∷◌, ◌++◌, map, flat_map, Option, Some, None, Result, Ok, Err, append_assoc}
use Rattle.calculus.specs.declared.change.DbChange.{DbChange}
use Rattle.calculus.specs.declared.query.RelKey.{RelKey}
use Rattle.calculus.specs.declared.reply.Column.{Column}
use Rattle.calculus.specs.declared.reply.Refusal.{Refusal}
use Rattle.calculus.specs.declared.reply.Reply.TheVariants.{Refused, Tables}
use Rattle.calculus.specs.declared.reply.Table.{Table}
use Rattle.calculus.specs.declared.request.Asked.{Asked}
use Rattle.calculus.specs.declared.request.Checked.{Checked}
use Rattle.calculus.specs.declared.request.Checked.TheVariants.{Answer, Update, Utility}
use Rattle.calculus.specs.declared.request.CopyCol.{CopyCol}
use Rattle.calculus.specs.declared.request.Utility.{Utility as Work}
use Rattle.calculus.specs.declared.request.Utility.TheVariants.{Copy}
use Rattle.calculus.specs.declared.schema.RelInfo.{RelInfo}
use Rattle.calculus.specs.declared.statement.Statement.{Statement}
use Rattle.calculus.specs.declared.statement.Statement.TheVariants.{Range}
use Rattle.calculus.specs.Finding.{found}
use Rattle.calculus.specs.Replacement.{updated}
use Rattle.calculus.specs.Rows.{Row}
use Rattle.calculus.specs.Who.{Who, AsUser}
use Rattle.network_meaning.specs.Sorts.{Meaning, Meaning.names, Meaning.objects, Meaning.runs}
use Rattle.network_meaning.specs.Language.{lines_of as row_lines, tables_bytes, reply_bytes as outcome_bytes, db_after, shelf_after}
use Rattle.quel_meaning.specs.Copying.{copied_from, copied_into, file_of_constant, refusal}
use Rattle.quel_meaning.specs.Meaning.{Effect, change_effect, numbered_effect, file_effect, answer_reply, copy_effect, utility_effect, tree_meaning, ruled_tree, checked_tree, range_outcome, with_ranges, checked_outcome, meaning, meaning_by, unchanged}
use Rattle.quel_meaning.specs.Planned.{planned}
use Rattle.quel_meaning.specs.Printed.{head_bytes, row_line, rule_bytes, table_bytes, refusal_bytes, reply_bytes}
use Rattle.quel_meaning.specs.Running.{at_line}
use Rattle.quel_meaning.specs.State.{State, Outcome}
use Rattle.quel_meaning.specs.Tables.{table_of, some_query_lacks}
use Rattle.quel_network.specs.Quel.{quel}
use Rattle.quel_network.specs.Sorts.{User, quel_sorts}
use Rattle.quel_network.specs.Trees.{sent_table, outcome_of_effect, range_meaning, checked_meaning, meaning_of}

-- what a statement leaves, and what it prints
abbrev pub Left : Type 0
Left = State × List ℕ

-- by its outcome, where its first token has this line
abbrev pub left_by : ℕ → Outcome → Left
left_by line outcome = (outcome.state, reply_bytes (at_line line outcome.reply))

-- by what it means for the stages
abbrev pub left_of : User → ℕ → State → Meaning quel_sorts → Left
left_of user line state (names ranges) = (record state { ranges = ranges }, [])
left_of user line state (objects r) = (state, refusal_bytes (record r { line = line }))
left_of user line state (runs outcome) = (
  record { db = db_after {S = quel_sorts} state.db outcome; shelf = shelf_after {S = quel_sorts} state.shelf outcome; ranges = state.ranges },
  outcome_bytes (quel user) line outcome,
)

-- ---- tables

rows_printed : (user : User) (columns : List Column) (rows : List Row) → flat_map (row_line columns) rows ≡ row_lines (quel user) columns rows
unfolding quel
rows_printed user columns [] = refl
rows_printed user columns (r ∷ rows) = ap (λ (x : List ℕ). row_line columns r ++ x) (rows_printed user columns rows)

tables_printed : (user : User) (tables : List Table) → flat_map table_bytes tables ≡ tables_bytes (quel user) (map sent_table tables)
unfolding quel table_bytes
tables_printed user [] = refl
tables_printed user (t ∷ tables) =
    let head = head_bytes t.columns in
    let rows = flat_map (row_line t.columns) t.rows in
    let rule = rule_bytes t.columns in
    let rest = flat_map table_bytes tables in
    append_assoc (head ++ rows) rule rest
    ∙ append_assoc head rows (rule ++ rest)
    ∙ ap (λ (x : List ℕ). head ++ (x ++ (rule ++ rest))) (rows_printed user t.columns t.rows)
    ∙ ap (λ (x : List ℕ). head ++ (row_lines (quel user) t.columns t.rows ++ (rule ++ x))) (tables_printed user tables)

-- ---- trees

-- the effect leaves and prints what its outcome for the stages does
abbrev Matches : User → ℕ → State → Effect → Type 0
Matches user line state e = left_by line (with_ranges state.ranges e) ≡ left_of user line state (runs (outcome_of_effect e))

matches_change : (user : User) (line : ℕ) (state : State) (c : Result DbChange Refusal) → Matches user line state (change_effect state.db state.shelf c)
unfolding quel reply_bytes
matches_change user line state (Ok change) = refl
matches_change user line state (Err r) = refl

matches_numbered : (user : User) (line : ℕ) (state : State) (c : Result DbChange ℕ) → Matches user line state (numbered_effect state.db state.shelf c)
unfolding quel reply_bytes
matches_numbered user line state (Ok change) = refl
matches_numbered user line state (Err number) = refl

matches_file : (user : User) (line : ℕ) (state : State) (file : List ℕ) (bytes : Result (List ℕ) Refusal) → Matches user line state (file_effect state.db state.shelf file bytes)
unfolding quel reply_bytes
matches_file user line state file (Ok bytes) = refl
matches_file user line state file (Err r) = refl

matches_answer : (user : User) (line : ℕ) (state : State) (who : Who) (asked : List Asked) → Matches user line state (unchanged state.db state.shelf (answer_reply state.db who asked))
unfolding quel reply_bytes
matches_answer user line state who asked = by_lack (some_query_lacks state.db who asked)
  where
    by_lack : (lacks : Bool) → Matches user line state (unchanged state.db state.shelf (elim lacks [ true ↦ Refused (refusal 20) | false ↦ Tables (map (table_of state.db who) asked) ]))
    by_lack true = refl
    by_lack false = ap (λ (x : List ℕ). (state, x)) (tables_printed user (map (table_of state.db who) asked))

matches_copy : (user : User) (line : ℕ) (state : State) (rel : RelKey) (columns : List CopyCol) (from : Bool) (constant : List ℕ)
    → Matches user line state (copy_effect state.db state.shelf user.asker.user rel columns from constant)
matches_copy user line state rel columns true constant = matches_change user line state (copied_from state.db state.shelf user.asker.user rel columns constant)
matches_copy user line state rel columns false constant = matches_file user line state (file_of_constant constant) (copied_into state.db user.asker.user rel columns)

matches_utility : (user : User) (line : ℕ) (state : State) (work : Work) → Matches user line state (utility_effect state.db state.shelf user.asker.user work)
unfolding utility_effect
matches_utility user line state (Copy rel columns from constant) = matches_copy user line state rel columns from constant
matches_utility user line state work = matches_numbered user line state (planned state.db user.asker.user work)

-- a tree leaves and prints what its outcome for the stages does, whoever asks
pub matches_tree : (user : User) (line : ℕ) (state : State) (who : Who) (tree : Checked) → Matches user line state (tree_meaning state.db state.shelf who user.asker.user tree)
unfolding tree_meaning
matches_tree user line state who (Answer asked) = matches_answer user line state who asked
matches_tree user line state who (Update u) = matches_numbered user line state (updated state.db who u)
matches_tree user line state who (Utility work) = matches_utility user line state work

-- ---- statements

matches_range : (user : User) (line : ℕ) (state : State) (var : List ℕ) (info : Option RelInfo)
    → left_by line (range_outcome state var info) ≡ left_of user line state (range_meaning state.ranges var info)
unfolding reply_bytes
matches_range user line state var None = refl
matches_range user line state var (Some info) = refl

matches_checked : (user : User) (line : ℕ) (state : State) (tree : Result Checked ℕ)
    → left_by line (checked_outcome state user.asker tree) ≡ left_of user line state (checked_meaning user.asker state.db state.shelf tree)
unfolding reply_bytes
matches_checked user line state (Err number) = refl
matches_checked user line state (Ok tree) = matches_tree user line state (AsUser user.asker) (ruled_tree state.db tree)

-- a statement leaves and prints what it means for the stages
pub matches_statement : (user : User) (line : ℕ) (state : State) (s : Statement)
    → left_by line (meaning state user.asker s) ≡ left_of user line state (meaning_of user.asker state.db state.shelf state.ranges s)
unfolding meaning_by meaning_of
matches_statement user line state (Range var rel) = matches_range user line state var (found state.db user.asker.user rel)
matches_statement user line state s = matches_checked user line state (checked_tree state.db user.asker state.ranges s)
