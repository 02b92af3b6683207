-- What a database in memory tells is a database, and a scan of it is one.
use Rattle.std.proofs.Common.{◌≡◌, refl, subst, List, map, Some}
use Rattle.std.proofs.lemmas.Option.{same_Some}
use Rattle.std.specs.List.{flat_map}
use Rattle.calculus.specs.declared.query.RelKey.{RelKey}
use Rattle.calculus.specs.Catalogue.{all_entries, relation_row, attribute_rows}
use Rattle.calculus.specs.Database.{Db}
use Rattle.calculus.specs.IsDatabase.{IsDatabase}
use Rattle.calculus.specs.Rows.{Row, Ascends, set_of}
use Rattle.calculus.specs.Stored.{rows_at}
use Rattle.calculus.proofs.Sets.{same_set, has-set_of, Ascends-nil, Ascends-set_of}
use Rattle.base_trait.specs.Scans.{IsScan, first_place}
use Rattle.plain_base.specs.FoundRows.{under_key}
use Rattle.plain_base.specs.Places.{rows_from}

-- the rows under a key ascend
pub ascending : (db : Db) (key : RelKey) → IsDatabase db → Ascends (rows_at db key)
ascending db key is = under_key Ascends db key is.rows_ascend Ascends-nil (Ascends-set_of (map relation_row (all_entries db)))
    (Ascends-set_of (flat_map attribute_rows (all_entries db)))

-- ascending rows are the set of themselves
pub set_of_ascending : (rows : List Row) → Ascends rows → set_of rows ≡ rows
set_of_ascending rows h = same_set (set_of rows) rows (Ascends-set_of rows) h (has-set_of rows)

-- what holds of the one database holds of the one that is known
pub of_known : (P : Db → Type 0) (a b : Db) → Some a ≡ Some b → P a → P b
of_known P a b e h = subst P (same_Some a b e) h

-- from the first place on all rows are left
pub whole_scan : (db : Db) (key : RelKey) → IsDatabase db → IsScan (rows_at db key) (rows_from db key first_place)
whole_scan db key is = record { all = set_of_ascending (rows_at db key) (ascending db key is); once = refl }
