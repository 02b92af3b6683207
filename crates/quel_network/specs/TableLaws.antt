-- The tables of a fit tree are as the network needs them: rows suit their heads, and all of it is spelled.
use Rattle.std.specs.Prelude.{◌≡◌, ℕ, zero, suc, Bool, true, false, List, [], ◌∷◌, ◌++◌, length, map, Result, Ok, Err}
use Rattle.std.specs.List.{list_all}
use Rattle.std.proofs.Common.{ap, refl, subst}
use Rattle.std.proofs.lemmas.Bool.{and_parts}
use Rattle.calculus.specs.declared.change.DbChange.{DbChange}
use Rattle.calculus.specs.declared.query.RelKey.{RelKey}
use Rattle.calculus.specs.declared.reply.Column.{Column}
use Rattle.calculus.specs.declared.reply.Refusal.{Refusal}
use Rattle.calculus.specs.declared.reply.Reply.{Reply}
use Rattle.calculus.specs.declared.reply.Reply.TheVariants as reply
use Rattle.calculus.specs.declared.request.Asked.{Asked}
use Rattle.calculus.specs.declared.request.Checked.{Checked}
use Rattle.calculus.specs.declared.request.Checked.TheVariants as checked
use Rattle.calculus.specs.declared.request.CopyCol.{CopyCol}
use Rattle.calculus.specs.declared.request.Utility.{Utility}
use Rattle.calculus.specs.declared.request.Utility.TheVariants as utility
use Rattle.calculus.specs.Database.{Db}
use Rattle.calculus.specs.QueryParts.{targets_of}
use Rattle.calculus.specs.Replacement.{updated}
use Rattle.calculus.specs.Rows.{Row}
use Rattle.calculus.specs.Spelled.{query_is_spelled}
use Rattle.calculus.specs.Who.{Unrestricted, Asker}
use Rattle.fault_io.specs.Files.{Files}
use Rattle.quel_meaning.specs.Copying.{copied_from, copied_into, file_of_constant, refusal}
use Rattle.quel_meaning.specs.Fit.{suits, fits}
use Rattle.quel_meaning.specs.FitQueries.{kept_alone, asked_fits}
use Rattle.quel_meaning.specs.Meaning.{change_effect, numbered_effect, file_effect, copy_effect, utility_effect, tree_meaning}
use Rattle.quel_meaning.specs.Planned.{planned}
use Rattle.quel_meaning.specs.SpelledTree.{tree_is_spelled}
use Rattle.quel_meaning.specs.Tables.{column_of, table_of, some_query_lacks}
use Rattle.quel_meaning.proofs.Each.{Each, in_map, each_passes}
use Rattle.quel_meaning.proofs.FitMade.{both_hold}
use Rattle.quel_tree.specs.Message.{most_tree_levels}
use Rattle.quel_tree.specs.Requests.{asked as asked_codec, checked as checked_codec}
use Rattle.tree_words.specs.Codec.{Codec}
use Rattle.tree_words.specs.Words.{ItemsFit, list}
use Rattle.network_meaning.specs.Language.{tops}
use Rattle.network_meaning.specs.Laws.{RowsFit, TablesFit}
use Rattle.network_meaning.specs.LocalSteps.{all_shown}
use Rattle.network_meaning.specs.Sorts.{Table, Outcome.tables, Shown, Said.shown, Message, Message.said}
use Rattle.network_meaning.specs.Spelled.{EachSpelled}
use Rattle.quel_network.specs.Quel.{quel}
use Rattle.quel_network.specs.Sorts.{User, quel_sorts}
use Rattle.quel_network.specs.SpellingLaws.{head_spelled_law, row_spelled_law}
use Rattle.quel_network.specs.TableFits.{RowStands, TableStands, asked_stands}
use Rattle.quel_network.specs.Trees.{sent_table, heads_of_tree, outcome_by, outcome_of_tree, IsFitTree}

-- ---- only queries show tables

-- the reply shows no table
abbrev NoTables : Reply → Type 0
NoTables reply.Nothing = Unit {0}
NoTables reply.Done = Unit {0}
NoTables (reply.Refused r) = Unit {0}
NoTables (reply.Tables ts) = ⊥

change_shows_none : (db : Db) (shelf : Files) (change : Result DbChange Refusal) → NoTables (change_effect db shelf change).reply
change_shows_none db shelf (Ok change) = tt
change_shows_none db shelf (Err r) = tt

numbered_shows_none : (db : Db) (shelf : Files) (change : Result DbChange ℕ) → NoTables (numbered_effect db shelf change).reply
numbered_shows_none db shelf (Ok change) = tt
numbered_shows_none db shelf (Err number) = tt

file_shows_none : (db : Db) (shelf : Files) (file : List ℕ) (bytes : Result (List ℕ) Refusal) → NoTables (file_effect db shelf file bytes).reply
file_shows_none db shelf file (Ok bytes) = tt
file_shows_none db shelf file (Err r) = tt

copy_shows_none : (db : Db) (shelf : Files) (user : List ℕ) (rel : RelKey) (columns : List CopyCol) (from : Bool) (constant : List ℕ)
    → NoTables (copy_effect db shelf user rel columns from constant).reply
copy_shows_none db shelf user rel columns true constant = change_shows_none db shelf (copied_from db shelf user rel columns constant)
copy_shows_none db shelf user rel columns false constant = file_shows_none db shelf (file_of_constant constant) (copied_into db user rel columns)

utility_shows_none : (db : Db) (shelf : Files) (user : List ℕ) (work : Utility) → NoTables (utility_effect db shelf user work).reply
unfolding utility_effect
utility_shows_none db shelf user (utility.Create rel attrs) = numbered_shows_none db shelf (planned db user (utility.Create rel attrs))
utility_shows_none db shelf user (utility.Destroy rels) = numbered_shows_none db shelf (planned db user (utility.Destroy rels))
utility_shows_none db shelf user (utility.Modify rel to keys) = numbered_shows_none db shelf (planned db user (utility.Modify rel to keys))
utility_shows_none db shelf user (utility.Index base name keys) = numbered_shows_none db shelf (planned db user (utility.Index base name keys))
utility_shows_none db shelf user (utility.Copy rel columns from constant) = copy_shows_none db shelf user rel columns from constant
utility_shows_none db shelf user (utility.View rel query) = numbered_shows_none db shelf (planned db user (utility.View rel query))
utility_shows_none db shelf user (utility.Permit rel permit) = numbered_shows_none db shelf (planned db user (utility.Permit rel permit))
utility_shows_none db shelf user (utility.Rule rel rule) = numbered_shows_none db shelf (planned db user (utility.Rule rel rule))
utility_shows_none db shelf user (utility.DropPermits rel numbers) = numbered_shows_none db shelf (planned db user (utility.DropPermits rel numbers))
utility_shows_none db shelf user (utility.DropRules rel numbers) = numbered_shows_none db shelf (planned db user (utility.DropRules rel numbers))

no_tables : (db : Db) (shelf : Files) (r : Reply) (ts : List (Table quel_sorts)) → NoTables r → outcome_by db shelf r ≡ tables ts → ⊥
no_tables db shelf reply.Nothing ts h e = cc e
no_tables db shelf reply.Done ts h e = cc e
no_tables db shelf (reply.Refused r) ts h e = cc e
no_tables db shelf (reply.Tables printed) ts h e = h

-- ---- the tables of a tree

each_item : {A : Type 0} (c : Codec A) (n : ℕ) (xs : List A) → ItemsFit c n xs → Each c.Fits xs
each_item c zero [] h = tt
each_item c zero (x ∷ xs) h = absurd h
each_item c (suc n) [] h = absurd h
each_item c (suc n) (x ∷ xs) h = (h.0, each_item c n xs h.1)

-- the queries of a tree each have a spelling
answer_spelled : (asked : List Asked) → (checked_codec most_tree_levels).Fits (checked.Answer asked) → Each (asked_codec most_tree_levels).Fits asked
unfolding checked_codec list
answer_spelled asked h = each_item (asked_codec most_tree_levels) (length asked) asked h.1

answer_stands : (asker : Asker) (asked : List Asked) (db : Db) → IsFitTree asker (checked.Answer asked) db → Each (λ a. TableStands (sent_table (table_of db Unrestricted a))) asked
unfolding fits tree_is_spelled suits
answer_stands asker asked db fit =
    both_hold (λ a. asked_fits (kept_alone db) db a ≡ true × query_is_spelled a.query ≡ true) (asked_codec most_tree_levels).Fits (λ a. TableStands (sent_table (table_of db Unrestricted a)))
    (λ a h f. asked_stands most_tree_levels db Unrestricted a fit.database h.0 h.1 f) asked
    (both_hold (λ a. asked_fits (kept_alone db) db a ≡ true) (λ a. query_is_spelled a.query ≡ true) (λ a. asked_fits (kept_alone db) db a ≡ true × query_is_spelled a.query ≡ true)
    (λ a f s. (f, s)) asked (each_passes (asked_fits (kept_alone db) db) asked parts.1) (each_passes (λ a. query_is_spelled a.query) asked parts.0)) (answer_spelled asked fit.spelled)
  where
    parts : (list_all (λ a. query_is_spelled a.query) asked ≡ true) × (list_all (asked_fits (kept_alone db) db) asked ≡ true)
    parts = and_parts (list_all (λ a. query_is_spelled a.query) asked) (list_all (asked_fits (kept_alone db) db) asked) fit.fit

-- the tables of a fit tree stand
pub tables_stand : (asker : Asker) (t : Checked) (db : Db) (shelf : Files) (ts : List (Table quel_sorts)) → IsFitTree asker t db → outcome_of_tree asker t db shelf ≡ tables ts → Each TableStands ts
unfolding outcome_of_tree tree_meaning
tables_stand asker (checked.Answer asked) db shelf ts fit e = go (some_query_lacks db Unrestricted asked) e
  where
    all : Each TableStands (map sent_table (map (table_of db Unrestricted) asked))
    all = in_map TableStands sent_table (map (table_of db Unrestricted) asked) (in_map (λ t. TableStands (sent_table t)) (table_of db Unrestricted) asked (answer_stands asker asked db fit))

    go : (b : Bool) → outcome_by db shelf (elim b as (λ b. Reply) [ true ↦ reply.Refused (refusal 20) | false ↦ reply.Tables (map (table_of db Unrestricted) asked) ]) ≡ tables ts → Each TableStands ts
    go true e = absurd (cc e)
    go false e = let same : map sent_table (map (table_of db Unrestricted) asked) ≡ ts = cc e in subst (Each TableStands) same all
tables_stand asker (checked.Update u) db shelf ts fit e =
    let effect = numbered_effect db shelf (updated db Unrestricted u) in
    absurd (no_tables effect.db effect.shelf effect.reply ts (numbered_shows_none db shelf (updated db Unrestricted u)) e)
tables_stand asker (checked.Utility work) db shelf ts fit e =
    let effect = utility_effect db shelf asker.user work in
    absurd (no_tables effect.db effect.shelf effect.reply ts (utility_shows_none db shelf asker.user work) e)

-- ---- the heads are those of the tree

heads_are : (db : Db) (asked : List Asked) → tops {S = quel_sorts} (map sent_table (map (table_of db Unrestricted) asked)) ≡ map (λ a. map column_of (targets_of a.query)) asked
unfolding table_of
heads_are db [] = refl
heads_are db (a ∷ asked) = ap (λ (hs : List (List Column)). map column_of (targets_of a.query) ∷ hs) (heads_are db asked)

tree_heads : (asker : Asker) (t : Checked) (db : Db) (shelf : Files) (ts : List (Table quel_sorts)) → outcome_of_tree asker t db shelf ≡ tables ts → tops ts ≡ heads_of_tree t
unfolding outcome_of_tree tree_meaning
tree_heads asker (checked.Answer asked) db shelf ts e = go (some_query_lacks db Unrestricted asked) e
  where
    go : (b : Bool) → outcome_by db shelf (elim b as (λ b. Reply) [ true ↦ reply.Refused (refusal 20) | false ↦ reply.Tables (map (table_of db Unrestricted) asked) ]) ≡ tables ts → tops ts ≡ map (λ a. map column_of (targets_of a.query)) asked
    go true e = absurd (cc e)
    go false e = let same : map sent_table (map (table_of db Unrestricted) asked) ≡ ts = cc e in subst (λ (x : List (Table quel_sorts)). tops x ≡ map (λ a. map column_of (targets_of a.query)) asked) same (heads_are db asked)
tree_heads asker (checked.Update u) db shelf ts e =
    let effect = numbered_effect db shelf (updated db Unrestricted u) in
    absurd (no_tables effect.db effect.shelf effect.reply ts (numbered_shows_none db shelf (updated db Unrestricted u)) e)
tree_heads asker (checked.Utility work) db shelf ts e =
    let effect = utility_effect db shelf asker.user work in
    absurd (no_tables effect.db effect.shelf effect.reply ts (utility_shows_none db shelf asker.user work) e)

pub heads_law : (user : User) (t : Checked) (db : Db) (shelf : Files) (ts : List (Table quel_sorts)) → (quel user).outcome t db shelf ≡ tables ts → tops ts ≡ (quel user).heads t
unfolding quel
heads_law user t db shelf ts e = tree_heads user.asker t db shelf ts e

-- ---- the rows suit their heads

rows_suit : (user : User) (columns : List Column) (rows : List Row) → Each (RowStands columns) rows → RowsFit (quel user) columns rows
unfolding quel
rows_suit user columns [] h = tt
rows_suit user columns (values ∷ rows) h = (h.0.suits, rows_suit user columns rows h.1)

tables_suit : (user : User) (ts : List (Table quel_sorts)) → Each TableStands ts → TablesFit (quel user) ts
tables_suit user [] h = tt
tables_suit user (t ∷ ts) h = (rows_suit user t.top t.rows h.0.rows, tables_suit user ts h.1)

pub rows_law : (user : User) (t : Checked) (db : Db) (shelf : Files) (ts : List (Table quel_sorts)) → IsFitTree user.asker t db → (quel user).outcome t db shelf ≡ tables ts → TablesFit (quel user) ts
unfolding quel
rows_law user t db shelf ts fit e = tables_suit user ts (tables_stand user.asker t db shelf ts fit e)

-- ---- heads and rows are spelled

-- what is shown, as messages
abbrev as_messages : List (Shown quel_sorts) → List (Message quel_sorts)
as_messages shows = map (λ s. said (shown s)) shows

rows_spelled : (user : User) (columns : List Column) (rows : List Row) (behind : List (Shown quel_sorts)) → Each (RowStands columns) rows → EachSpelled (quel user) (as_messages behind)
    → EachSpelled (quel user) (as_messages (map Shown.row rows ++ behind))
rows_spelled user columns [] behind h later = later
rows_spelled user columns (values ∷ rows) behind h later = (row_spelled_law user values h.0.spelled, rows_spelled user columns rows behind h.1 later)

shown_spelled : (user : User) (ts : List (Table quel_sorts)) → Each TableStands ts → EachSpelled (quel user) (as_messages (all_shown ts))
shown_spelled user [] h = tt
shown_spelled user (t ∷ ts) h = (head_spelled_law user t.top h.0.head, rows_spelled user t.top t.rows (all_shown ts) h.0.rows (shown_spelled user ts h.1))

pub tables_spelled_law : (user : User) (t : Checked) (db : Db) (shelf : Files) (ts : List (Table quel_sorts)) → IsFitTree user.asker t db → (quel user).outcome t db shelf ≡ tables ts
    → EachSpelled (quel user) (map (λ s. said (shown s)) (all_shown ts))
unfolding quel
tables_spelled_law user t db shelf ts fit e = shown_spelled user ts (tables_stand user.asker t db shelf ts fit e)
