-- The rows of a catalogue that go with a change of its database, and those that come.
use Rattle.std.specs.Prelude.{ℕ, ◌==◌, ◌&&◌, ◌||◌, not, List, [], ◌∷◌, map, filter}
use Rattle.calculus.specs.declared.query.RelKey.{RelKey}
use Rattle.calculus.specs.declared.change.DbChange.{DbChange}
use Rattle.calculus.specs.declared.change.DbChange.TheVariants as change
use Rattle.calculus.specs.Change.{restructured, index_info}
use Rattle.calculus.specs.Database.{Db, Relation}
use Rattle.calculus.specs.Keys.{same_key, has_key}
use Rattle.calculus.specs.Lists.{has_number}
use Rattle.calculus.specs.Rows.{set_of}
use Rattle.stored_database.specs.Catalogue.{Catalogue}
use Rattle.stored_database.specs.Entries.{Entry}
use Rattle.stored_database.specs.Printed.{Files, relation_entry, index_entry, entries_for, columns_for, parts_for}

-- ---- parts of a database

-- nothing of a database
abbrev pub nothing : Db
nothing = record { dba = []; relations = []; indexes = []; views = []; rules = []; permits = [] }

-- the relation under a key, where there is one
abbrev pub under : RelKey → List Relation → List Relation
under key relations = filter (λ r. same_key r.info.key key) relations

-- the relation under a key, where the numbers of its pages differ
abbrev pub resized : Files → Files → RelKey → List Relation → List Relation
resized f after key relations = filter (λ r. same_key r.info.key key && not (f.used r.info.key == after.used r.info.key)) relations

-- what is destroyed with these keys: what stands under them, the indexes on it, and its rules and permits
abbrev pub destroyed : List RelKey → Db → Db
destroyed rels db = record {
  dba = [];
  relations = filter (λ r. has_key rels r.info.key) db.relations;
  indexes = filter (λ x. has_key rels x.info.key || has_key rels x.base) db.indexes;
  views = filter (λ v. has_key rels v.info.key) db.views;
  rules = filter (λ p. has_key rels p.0) db.rules;
  permits = filter (λ p. has_key rels p.0) db.permits;
}

-- the permits of a relation that have these numbers
abbrev pub dropped_permits : RelKey → List ℕ → Db → Db
dropped_permits rel numbers db = record nothing { permits = filter (λ p. same_key p.0 rel && has_number numbers p.1.number) db.permits }

-- the rules of a relation that have these numbers
abbrev pub dropped_rules : RelKey → List ℕ → Db → Db
dropped_rules rel numbers db = record nothing { rules = filter (λ p. same_key p.0 rel && has_number numbers p.1.number) db.rules }

-- ---- rows of a catalogue

-- the rows that part of a database has in each set
abbrev pub rows_of : Files → Db → Catalogue
rows_of f part = record { entries = entries_for f part; columns = columns_for f part; parts = parts_for f part }

-- entries, and nothing else
abbrev pub only_entries : List Entry → Catalogue
only_entries entries = record { entries = entries; columns = []; parts = [] }

-- The rows that go, where the files were these before and are those after. Where rows of a relation change and not the number of its pages, none go.
unfoldable pub going : Files → Files → Db → DbChange → Catalogue
going f after db (change.Rows rel remove add) = only_entries (map (relation_entry f) (resized f after rel db.relations))
going f after db (change.Create info rows) = only_entries []
going f after db (change.Destroy rels) = rows_of f (destroyed rels db)
going f after db (change.Modify rel to keys) =
    only_entries (entries_for f (record nothing { relations = under rel db.relations; indexes = filter (λ x. same_key x.base rel) db.indexes }))
going f after db (change.Index base name keys) = only_entries []
going f after db (change.View info query) = only_entries []
going f after db (change.Permit rel permit) = only_entries []
going f after db (change.Rule rel rule) = only_entries []
going f after db (change.DropPermits rel numbers) = rows_of f (dropped_permits rel numbers db)
going f after db (change.DropRules rel numbers) = rows_of f (dropped_rules rel numbers db)

-- the rows that come
unfoldable pub coming : Files → Files → Db → DbChange → Catalogue
coming f after db (change.Rows rel remove add) = only_entries (map (relation_entry after) (resized f after rel db.relations))
coming f after db (change.Create info rows) = rows_of after (record nothing { relations = record { info = info; rows = set_of rows } ∷ [] })
coming f after db (change.Destroy rels) = only_entries []
coming f after db (change.Modify rel to keys) = only_entries (map (λ r. relation_entry after (restructured to keys r)) (under rel db.relations))
coming f after db (change.Index base name keys) = only_entries (index_entry after (record { info = index_info base name keys; base = base }) ∷ [])
coming f after db (change.View info query) = rows_of after (record nothing { views = record { info = info; query = query } ∷ [] })
coming f after db (change.Permit rel permit) = rows_of after (record nothing { permits = (rel, permit) ∷ [] })
coming f after db (change.Rule rel rule) = rows_of after (record nothing { rules = (rel, rule) ∷ [] })
coming f after db (change.DropPermits rel numbers) = only_entries []
coming f after db (change.DropRules rel numbers) = only_entries []
