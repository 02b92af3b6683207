-- Changes of a database: the database after one, and which changes are lawful.
use Rattle.std.specs.Prelude.{ℕ, Bool, true, false, not, ◌&&◌, ◌||◌, nat_eq, List, [], map, filter, IsTrue}
use Rattle.std.specs.List.{list_any, list_all}
use Rattle.std.specs.Ordering.{eq_by_cmp}
use Rattle.calculus.specs.declared.query.RelKey.{RelKey}
use Rattle.calculus.specs.declared.schema.Spec.{Spec}
use Rattle.calculus.specs.declared.schema.Spec.TheVariants as spec
use Rattle.calculus.specs.declared.schema.RelInfo.{RelInfo}
use Rattle.calculus.specs.declared.change.DbChange.{DbChange}
use Rattle.calculus.specs.declared.change.DbChange.TheVariants as change
use Rattle.calculus.specs.Value.{row_cmp}
use Rattle.calculus.specs.Rows.{Row, has, set_of}
use Rattle.calculus.specs.Keys.{key_of, same_key, has_key, key_cmp, numbered_cmp}
use Rattle.calculus.specs.Lists.{has_number, insert_by, differ_by}
use Rattle.calculus.specs.Database.{Db, Relation, is_relation, is_there, rules_on, permits_on}
use Rattle.calculus.specs.Stored.{rows_at}
use Rattle.calculus.specs.Replacement.{with_rows, without_rows}
use Rattle.calculus.specs.IsDatabase.{IsDatabase}

-- ---- the database after a change

-- the relations, the one under this key changed
abbrev pub change_at : RelKey → (Relation → Relation) → List Relation → List Relation
change_at key f relations = map (λ r. elim (same_key r.info.key key) [ true ↦ f r | false ↦ r ]) relations

-- the relation with another structure
abbrev pub restructured : Spec → List ℕ → Relation → Relation
restructured to keys r = record r { info = record { key = r.info.key; spec = to; attrs = r.info.attrs; keys = keys } }

-- what is known of an index, which has the owner of the relation below it
abbrev pub index_info : RelKey → List ℕ → List ℕ → RelInfo
index_info base name keys = record { key = key_of base.owner name; spec = spec.Index; attrs = []; keys = keys }

-- those of rules or permits that stand on none of these relations
abbrev pub without_keys : {X : Type 0} → List RelKey → List (RelKey × X) → List (RelKey × X)
without_keys keys ps = filter (λ p. not (has_key keys p.0)) ps

-- those of rules or permits that are not among the ones of this relation with these numbers
abbrev pub without_numbers : {X : Type 0} → (X → ℕ) → RelKey → List ℕ → List (RelKey × X) → List (RelKey × X)
without_numbers number key numbers ps = filter (λ p. not (same_key p.0 key && has_number numbers (number p.1))) ps

-- the database after a change; each list stays in its order. With a relation go its indexes, rules and permits; a new structure takes the indexes away
unfoldable pub laid : Db → DbChange → Db
laid db (change.Rows rel remove add) = record db { relations = change_at rel (λ r. record r { rows = with_rows add (without_rows remove r.rows) }) db.relations }
laid db (change.Create info rows) = record db {
  relations = insert_by (λ a b. key_cmp a.info.key b.info.key) (record { info = info; rows = set_of rows }) db.relations;
}
laid db (change.Destroy rels) = record db {
  relations = filter (λ r. not (has_key rels r.info.key)) db.relations;
  indexes = filter (λ x. not (has_key rels x.info.key || has_key rels x.base)) db.indexes;
  views = filter (λ v. not (has_key rels v.info.key)) db.views;
  rules = without_keys rels db.rules;
  permits = without_keys rels db.permits;
}
laid db (change.Modify rel to keys) = record db {
  relations = change_at rel (restructured to keys) db.relations;
  indexes = filter (λ x. not (same_key x.base rel)) db.indexes;
}
laid db (change.Index base name keys) = record db {
  indexes = insert_by (λ a b. key_cmp a.info.key b.info.key) (record { info = index_info base name keys; base = base }) db.indexes;
}
laid db (change.View info query) = record db {
  views = insert_by (λ a b. key_cmp a.info.key b.info.key) (record { info = info; query = query }) db.views;
}
laid db (change.Permit rel permit) = record db { permits = insert_by (numbered_cmp (λ p. p.number)) (rel, permit) db.permits }
laid db (change.Rule rel rule) = record db { rules = insert_by (numbered_cmp (λ r. r.number)) (rel, rule) db.rules }
laid db (change.DropPermits rel numbers) = record db { permits = without_numbers (λ p. p.number) rel numbers db.permits }
laid db (change.DropRules rel numbers) = record db { rules = without_numbers (λ r. r.number) rel numbers db.rules }

-- ---- what a change speaks of

-- the numbers of the permits of a relation
abbrev pub permit_numbers : Db → RelKey → List ℕ
permit_numbers db rel = map (λ p. p.number) (permits_on db rel)

-- the numbers of the rules of a relation
abbrev pub rule_numbers : Db → RelKey → List ℕ
rule_numbers db rel = map (λ r. r.number) (rules_on db rel)

-- what a change removes or names is there
unfoldable pub names_what_is_there : Db → DbChange → Bool
names_what_is_there db (change.Rows rel remove add) = is_relation db rel && list_all (has (rows_at db rel)) remove
names_what_is_there db (change.Create info rows) = true
names_what_is_there db (change.Destroy rels) = list_all (is_there db) rels
names_what_is_there db (change.Modify rel to keys) = is_relation db rel
names_what_is_there db (change.Index base name keys) = is_relation db base
names_what_is_there db (change.View info query) = true
names_what_is_there db (change.Permit rel permit) = is_relation db rel
names_what_is_there db (change.Rule rel rule) = is_relation db rel
names_what_is_there db (change.DropPermits rel numbers) = is_relation db rel && list_all (has_number (permit_numbers db rel)) numbers
names_what_is_there db (change.DropRules rel numbers) = is_relation db rel && list_all (has_number (rule_numbers db rel)) numbers

-- what a change adds is not there
unfoldable pub adds_what_is_new : Db → DbChange → Bool
adds_what_is_new db (change.Rows rel remove add) = not (list_any (has (rows_at db rel)) add)
adds_what_is_new db (change.Create info rows) = not (is_there db info.key)
adds_what_is_new db (change.Destroy rels) = true
adds_what_is_new db (change.Modify rel to keys) = true
adds_what_is_new db (change.Index base name keys) = not (is_there db (key_of base.owner name))
adds_what_is_new db (change.View info query) = not (is_there db info.key)
adds_what_is_new db (change.Permit rel permit) = not (has_number (permit_numbers db rel) permit.number)
adds_what_is_new db (change.Rule rel rule) = not (has_number (rule_numbers db rel) rule.number)
adds_what_is_new db (change.DropPermits rel numbers) = true
adds_what_is_new db (change.DropRules rel numbers) = true

-- no two of these rows are the same
abbrev pub rows_differ : List Row → Bool
rows_differ = differ_by (eq_by_cmp row_cmp)

-- a change lists no row, no destroyed relation and no dropped number twice
unfoldable pub lists_once : DbChange → Bool
lists_once (change.Rows rel remove add) = rows_differ remove && rows_differ add
lists_once (change.Create info rows) = rows_differ rows
lists_once (change.Destroy rels) = differ_by same_key rels
lists_once (change.Modify rel to keys) = true
lists_once (change.Index base name keys) = true
lists_once (change.View info query) = true
lists_once (change.Permit rel permit) = true
lists_once (change.Rule rel rule) = true
lists_once (change.DropPermits rel numbers) = differ_by nat_eq numbers
lists_once (change.DropRules rel numbers) = differ_by nat_eq numbers

-- a lawful change: what it removes or names is there, what it adds is not, it lists nothing twice, and it leaves a database
pub record IsLawful (db : Db) (change : DbChange) : Type 0 where
  pub names_are_there : IsTrue (names_what_is_there db change)
  pub additions_are_new : IsTrue (adds_what_is_new db change)
  pub nothing_is_listed_twice : IsTrue (lists_once change)
  pub leaves_a_database : IsDatabase (laid db change)
