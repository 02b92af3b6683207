-- What the schema decides of a change.
use Rattle.std.specs.Prelude.{Bool, true, false, ◌&&◌, List}
use Rattle.std.specs.List.{list_all}
use Rattle.calculus.specs.declared.query.RelKey.{RelKey}
use Rattle.calculus.specs.declared.change.DbChange.{DbChange}
use Rattle.calculus.specs.declared.change.DbChange.TheVariants as change
use Rattle.calculus.specs.Change.{rows_differ}
use Rattle.calculus.specs.Database.{Db, is_relation}
use Rattle.calculus.specs.IsDatabase.{row_fits}
use Rattle.calculus.specs.Rows.{Row}
use Rattle.calculus.specs.Stored.{attrs_at}

-- rows of a relation go and come
abbrev pub is_of_rows : DbChange → Bool
is_of_rows (change.Rows rel remove add) = true
is_of_rows (change.Create info rows) = false
is_of_rows (change.Destroy rels) = false
is_of_rows (change.Modify rel to keys) = false
is_of_rows (change.Index base name keys) = false
is_of_rows (change.View info query) = false
is_of_rows (change.Permit rel permit) = false
is_of_rows (change.Rule rel rule) = false
is_of_rows (change.DropPermits rel numbers) = false
is_of_rows (change.DropRules rel numbers) = false

-- rows that go and come stand by the schema: the relation is there, neither lists one twice, and those that come fit
unfoldable pub rows_stand : Db → RelKey → List Row → List Row → Bool
rows_stand db rel remove add = is_relation db rel && (rows_differ remove && (rows_differ add && list_all (row_fits (attrs_at db rel)) add))
