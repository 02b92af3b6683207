-- A database of which the rows of some relations were read, and those of the others not yet.
use Rattle.std.specs.Prelude.{◌≡◌, ◌||◌, Bool, true, false, List, [], map, None, Some}
use Rattle.calculus.specs.declared.query.RelKey.{RelKey}
use Rattle.calculus.specs.declared.change.DbChange.{DbChange}
use Rattle.calculus.specs.declared.change.DbChange.TheVariants as change
use Rattle.calculus.specs.Change.{IsLawful, laid}
use Rattle.calculus.specs.Database.{Db, Relation, relation_at}
use Rattle.calculus.specs.IsDatabase.{IsDatabase}
use Rattle.calculus.specs.Keys.{same_key}
use Rattle.calculus.specs.Rows.{Row}
use Rattle.calculus.specs.Schema.{bare, schema_of}
use Rattle.calculus.specs.Stored.{rows_at}
use Rattle.calculus.specs.Value.{row_cmp}
use Rattle.page_chain.specs.Lists.{once}

-- the database with the rows of these relations alone
unfoldable pub loaded_part : (RelKey → Bool) → Db → Db
loaded_part has db = record db { relations = map (λ r. elim (has r.info.key) [ true ↦ r | false ↦ bare r ]) db.relations }

-- this key, and those
abbrev pub with_key : RelKey → (RelKey → Bool) → RelKey → Bool
with_key key has other = same_key key other || has other

-- whose rows are known after a change: those of a relation that it makes, too
unfoldable pub known_after : DbChange → (RelKey → Bool) → RelKey → Bool
known_after (change.Rows rel remove add) has = has
known_after (change.Create info rows) has = with_key info.key has
known_after (change.Destroy rels) has = has
known_after (change.Modify rel to keys) has = has
known_after (change.Index base name keys) has = has
known_after (change.View info query) has = has
known_after (change.Permit rel permit) has = has
known_after (change.Rule rel rule) has = has
known_after (change.DropPermits rel numbers) has = has
known_after (change.DropRules rel numbers) has = has

-- the rows that a change names are known
unfoldable pub knows_rows : DbChange → (RelKey → Bool) → Bool
knows_rows (change.Rows rel remove add) has = has rel
knows_rows (change.Create info rows) has = true
knows_rows (change.Destroy rels) has = true
knows_rows (change.Modify rel to keys) has = true
knows_rows (change.Index base name keys) has = true
knows_rows (change.View info query) has = true
knows_rows (change.Permit rel permit) has = true
knows_rows (change.Rule rel rule) has = true
knows_rows (change.DropPermits rel numbers) has = true
knows_rows (change.DropRules rel numbers) has = true

-- such a part of a database is a database with the same schema
abbrev pub IsADatabase : Type 0
IsADatabase = (has : RelKey → Bool) (db : Db) → IsDatabase db → IsDatabase (loaded_part has db)

abbrev pub HasTheSchema : Type 0
HasTheSchema = (has : RelKey → Bool) (db : Db) → schema_of (loaded_part has db) ≡ schema_of db

-- where no relation's rows are known, it is the schema
abbrev pub StartsAsTheSchema : Type 0
StartsAsTheSchema = (db : Db) → loaded_part (λ key. false) db ≡ schema_of db

-- Under a key whose rows are known, or where no relation stands, the same rows stand.
pub record HasTheRows : Type 0 where
  pub known : (has : RelKey → Bool) (db : Db) (key : RelKey) → has key ≡ true → rows_at (loaded_part has db) key ≡ rows_at db key
  pub others : (has : RelKey → Bool) (db : Db) (key : RelKey) → None ≡ relation_at db key → rows_at (loaded_part has db) key ≡ rows_at db key

-- A change that is lawful is lawful of a part in which the rows that it names are known, and the part after it is that of the database after it.
pub record TakesChanges : Type 0 where
  pub lawful : (has : RelKey → Bool) (db : Db) (made : DbChange) → IsDatabase db → IsLawful db made → knows_rows made has ≡ true → IsLawful (loaded_part has db) made
  pub after : (has : RelKey → Bool) (db : Db) (made : DbChange) → IsDatabase db → IsLawful db made → knows_rows made has ≡ true
      → laid (loaded_part has db) made ≡ loaded_part (known_after made has) (laid db made)

-- Rows of a relation that weren't known come to be known as a lawful change.
pub record TakesRows : Type 0 where
  pub lawful : (has : RelKey → Bool) (db : Db) (r : Relation) (rows : List Row) → IsDatabase db → Some r ≡ relation_at db r.info.key → has r.info.key ≡ false
      → once row_cmp rows ≡ Some r.rows → IsLawful (loaded_part has db) (change.Rows r.info.key [] rows)
  pub after : (has : RelKey → Bool) (db : Db) (r : Relation) (rows : List Row) → IsDatabase db → Some r ≡ relation_at db r.info.key → has r.info.key ≡ false
      → once row_cmp rows ≡ Some r.rows → laid (loaded_part has db) (change.Rows r.info.key [] rows) ≡ loaded_part (with_key r.info.key has) db
