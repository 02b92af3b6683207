-- The rows under a key, by what stands there.
use Rattle.std.proofs.Common.{◌≡◌, refl, Some, None, true, false, [], map}
use Rattle.std.specs.List.{flat_map}
use Rattle.calculus.specs.declared.query.RelKey.{RelKey}
use Rattle.calculus.specs.Catalogue.{all_entries, relation_row, attribute_rows, relation_key, attribute_key, catalogue_at}
use Rattle.calculus.specs.Database.{Db, Relation, View, relation_at, view_at}
use Rattle.calculus.specs.Keys.{same_key}
use Rattle.calculus.specs.Rows.{set_of}
use Rattle.calculus.specs.Stored.{range_at, rows_at}

pub rows_of_relation : (db : Db) (key : RelKey) (r : Relation) → Some r ≡ relation_at db key → rows_at db key ≡ r.rows
unfolding range_at
rows_of_relation db key r e = rw (← e, range_at) refl

pub rows_of_view : (db : Db) (key : RelKey) (v : View) → None ≡ relation_at db key → Some v ≡ view_at db key → rows_at db key ≡ []
unfolding range_at
rows_of_view db key v n e = rw (← n, ← e, range_at) refl

pub rows_of_first : (db : Db) (key : RelKey) → None ≡ relation_at db key → None ≡ view_at db key → same_key key (relation_key db) ≡ true
    → rows_at db key ≡ set_of (map relation_row (all_entries db))
unfolding range_at catalogue_at
rows_of_first db key n m e = rw (← n, ← m, e, range_at, catalogue_at) refl

pub rows_of_second : (db : Db) (key : RelKey) → None ≡ relation_at db key → None ≡ view_at db key → same_key key (relation_key db) ≡ false
    → same_key key (attribute_key db) ≡ true → rows_at db key ≡ set_of (flat_map attribute_rows (all_entries db))
unfolding range_at catalogue_at
rows_of_second db key n m e f = rw (← n, ← m, e, f, range_at, catalogue_at) refl

pub rows_of_none : (db : Db) (key : RelKey) → None ≡ relation_at db key → None ≡ view_at db key → same_key key (relation_key db) ≡ false
    → same_key key (attribute_key db) ≡ false → rows_at db key ≡ []
unfolding range_at catalogue_at
rows_of_none db key n m e f = rw (← n, ← m, e, f, range_at, catalogue_at) refl
