-- The schema of a database: all of it but the rows of its relations; and which part of what is asked of a lawful change it decides.
use Rattle.std.specs.Prelude.{Bool, true, not, ◌&&◌, ◌+◌, ◌-◌, nat_le, IsTrue, [], map, length}
use Rattle.std.specs.List.{list_any, list_all}
use Rattle.calculus.specs.declared.change.DbChange.{DbChange}
use Rattle.calculus.specs.declared.change.DbChange.TheVariants.{Rows}
use Rattle.calculus.specs.Rows.{has}
use Rattle.calculus.specs.Limits.{most_rows}
use Rattle.calculus.specs.Database.{Db, Relation}
use Rattle.calculus.specs.Stored.{rows_at, attrs_at}
use Rattle.calculus.specs.IsDatabase.{row_fits}
use Rattle.calculus.specs.Change.{IsLawful, rows_differ}

-- the relation without its rows
abbrev pub bare : Relation → Relation
bare r = record r { rows = [] }

-- the schema of a database, as the database that has it and whose relations have no rows: so whatever is said of databases is said of schemas
unfoldable pub schema_of : Db → Db
schema_of db = record db { relations = map bare db.relations }

-- the change by which no row goes
abbrev pub without_going : DbChange → DbChange
without_going (Rows rel remove add) = Rows rel [] add
without_going change = change

-- the rows that go by a change fit, none is listed twice, none comes, and they are no more than a relation may have
abbrev pub going_rows_stand : Db → DbChange → Bool
going_rows_stand db (Rows rel remove add) =
    rows_differ remove && (list_all (row_fits (attrs_at db rel)) remove && (not (list_any (has remove) add) && nat_le (length remove) most_rows))
going_rows_stand db change = true

-- what the schema of a database and the change alone decide: the change, without the rows that go, is lawful for the schema, and these stand
pub record IsLawfulBySchema (db : Db) (change : DbChange) : Type 0 where
  pub lawful : IsLawful (schema_of db) (without_going change)
  pub going : IsTrue (going_rows_stand (schema_of db) change)

-- what the rows decide: those that go are there, those that come aren't, and no more stand afterwards than may
unfoldable pub rows_allow : Db → DbChange → Bool
rows_allow db (Rows rel remove add) =
    list_all (has (rows_at db rel)) remove
    && (not (list_any (has (rows_at db rel)) add) && nat_le (length (rows_at db rel) + length add - length remove) most_rows)
rows_allow db change = true
