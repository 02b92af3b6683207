-- A database whose schema is one and whose rows are sets that fit is a database; so each part is.
use Rattle.std.proofs.Common.{◌≡◌, refl, sym, ap, subst, ◌∙◌, List, [], ◌∷◌, map, length}
use Rattle.std.specs.Prelude.{Bool, true, false, not, ◌&&◌, nat_le, IsTrue, is_some}
use Rattle.std.specs.List.{AllByRecursion, list_all}
use Rattle.std.specs.List.Sorted.{IsStrictlySortedBy}
use Rattle.calculus.specs.declared.query.RelKey.{RelKey}
use Rattle.calculus.specs.declared.schema.RelInfo.{RelInfo}
use Rattle.calculus.specs.Rows.{Ascends}
use Rattle.calculus.specs.Structures.{is_index}
use Rattle.calculus.specs.Lists.{is_any, differ_by}
use Rattle.calculus.specs.Keys.{same_key, key_cmp}
use Rattle.calculus.specs.Limits.{most_entries, most_expanded_variables, greatest_size, most_rows, most_rules, most_permits}
use Rattle.calculus.specs.Database.{Db, Relation, Index, View, rules_on, permits_on}
use Rattle.calculus.specs.IsDatabase.{IsDatabase, key_is_named, valid_structure, attrs_stand, are_stored, relation_rows_fit, keys_stand, valid_index}
use Rattle.calculus.specs.Schema.{bare, schema_of}
use Rattle.calculus.proofs.Sets.{Ascends-nil}
use Rattle.plan_laws.proofs.Kept.{both, each}
use Rattle.schema_laws.proofs.Alike.{is_relation_alike, entries_alike, attrs_alike}
use Rattle.schema_laws.proofs.Through.{level_alike}
use Rattle.schema_laws.proofs.Known.{size_alike, expanded_alike}
use Rattle.schema_laws.proofs.SchemaStands.{valid_query_alike, vars_there_alike, row_qual_alike, permit_alike, schema_is_database}
use Rattle.catalog_laws.specs.Loaded.{loaded_part}
use Rattle.catalog_laws.proofs.Part.{part, part_if, has_schema}

-- what is asked of the information alone holds of the relations without their rows
all_bare : (test : RelInfo → Bool) (relations : List Relation) → list_all (λ (r : Relation). test r.info) (map bare relations) ≡ list_all (λ r. test r.info) relations
all_bare test [] = refl
all_bare test (r ∷ relations) = ap (λ b. test r.info && b) (all_bare test relations)

keys_bare : (relations : List Relation) → map (λ (r : Relation). r.info.key) (map bare relations) ≡ map (λ r. r.info.key) relations
keys_bare [] = refl
keys_bare (r ∷ relations) = ap (λ ks. r.info.key ∷ ks) (keys_bare relations)

index_alike : (db : Db) (x : Index) → valid_index (schema_of db) x ≡ valid_index db x
index_alike db x = λ i.
    is_index x.info.spec && (is_relation_alike db x.base i && (not (is_any x.info.attrs) && (is_any x.info.keys && keys_stand (attrs_alike db x.base i) x.info.keys)))

-- what passes in one way passes in the other
along : {a b : Bool} → a ≡ b → IsTrue a → IsTrue b
along e t = sym e ∙ t

-- what is said of rows, and the schema's facts
pub by_its_schema : (db : Db) → IsDatabase (schema_of db) → AllByRecursion (λ r. Ascends r.rows) db.relations → IsTrue (list_all relation_rows_fit db.relations)
    → IsTrue (list_all (λ (r : Relation). nat_le (length r.rows) most_rows) db.relations) → IsDatabase db
unfolding schema_of
by_its_schema db is ascend fit few = record {
  dba_is_named = is.dba_is_named;
  keys_are_named = along (ap (list_all (λ i. key_is_named i.key)) (entries_alike db)) is.keys_are_named;
  relations_ascend = subst (IsStrictlySortedBy key_cmp) (keys_bare db.relations) is.relations_ascend;
  indexes_ascend = is.indexes_ascend;
  views_ascend = is.views_ascend;
  rules_ascend = is.rules_ascend;
  permits_ascend = is.permits_ascend;
  keys_differ = along (ap (λ (es : List RelInfo). differ_by same_key (map (λ i. i.key) es)) (entries_alike db)) is.keys_differ;
  structures_stand = along (all_bare valid_structure db.relations) is.structures_stand;
  relation_attrs_stand = along (all_bare (λ i. attrs_stand i.attrs) db.relations) is.relation_attrs_stand;
  relations_are_stored = along (all_bare (λ i. are_stored i.attrs) db.relations) is.relations_are_stored;
  rows_ascend = ascend;
  rows_fit = fit;
  indexes_stand = along (λ i. list_all (λ x. index_alike db x i) db.indexes) is.indexes_stand;
  view_infos_stand = is.view_infos_stand;
  view_attrs_stand = is.view_attrs_stand;
  view_attrs_are_targets = is.view_attrs_are_targets;
  views_name_what_is_there = along (λ i. list_all (λ (v : View). vars_there_alike db v.query i) db.views) is.views_name_what_is_there;
  views_have_levels = along (λ i. list_all (λ (v : View). is_some (level_alike db v.info.key i)) db.views) is.views_have_levels;
  view_queries_stand = along (λ i. list_all (λ (v : View). valid_query_alike db v.query i) db.views) is.view_queries_stand;
  rules_stand = along (λ i. list_all (λ p. is_relation_alike db p.0 i && row_qual_alike db p.0 p.1.qual i) db.rules) is.rules_stand;
  permits_stand = along (λ i. list_all (λ p. permit_alike db p.0 p.1 i) db.permits) is.permits_stand;
  few_entries = along (ap (λ (es : List RelInfo). nat_le (length es) most_entries) (entries_alike db)) is.few_entries;
  few_rows = few;
  few_listed_variables = is.few_listed_variables;
  few_variables = is.few_variables;
  few_expanded_variables = along (λ i. list_all (λ (v : View). nat_le (expanded_alike db v.query i) most_expanded_variables) db.views) is.few_expanded_variables;
  small_views = along (λ i. list_all (λ (v : View). nat_le (size_alike db v.query i) greatest_size) db.views) is.small_views;
  storable_views = is.storable_views;
  storable_rules = is.storable_rules;
  storable_permits = is.storable_permits;
  storable_lists = is.storable_lists;
  few_rules = along (all_bare (λ i. nat_le (length (rules_on db i.key)) most_rules) db.relations) is.few_rules;
  few_permits = along (all_bare (λ i. nat_le (length (permits_on db i.key)) most_permits) db.relations) is.few_permits;
  small_rule_numbers = is.small_rule_numbers;
  small_permit_numbers = is.small_permit_numbers;
}

-- ---- a part

parts_ascend : (has : RelKey → Bool) (rs : List Relation) → AllByRecursion (λ r. Ascends r.rows) rs → AllByRecursion (λ r. Ascends r.rows) (map (part has) rs)
parts_ascend has [] all = tt
parts_ascend has (r ∷ rs) all = (go (has r.info.key), parts_ascend has rs all.1)
  where
    go : (b : Bool) → Ascends (part_if b r).rows
    go true = all.0
    go false = Ascends-nil

-- a test that a relation without rows passes
parts_pass : (test : Relation → Bool) → ((r : Relation) → IsTrue (test (bare r))) → (has : RelKey → Bool) (rs : List Relation) → IsTrue (list_all test rs) → IsTrue (list_all test (map (part has) rs))
parts_pass test none has [] t = refl
parts_pass test none has (r ∷ rs) t =
    let parts = both (test r) (list_all test rs) t in
    each (test (part has r)) (list_all test (map (part has) rs)) (go parts.0 (has r.info.key)) (parts_pass test none has rs parts.1)
  where
    go : IsTrue (test r) → (b : Bool) → IsTrue (test (part_if b r))
    go s true = s
    go s false = none r

pub part_is_database : (has : RelKey → Bool) (db : Db) → IsDatabase db → IsDatabase (loaded_part has db)
unfolding loaded_part
part_is_database has db is =
    by_its_schema (loaded_part has db) (subst IsDatabase (sym (has_schema has db)) (schema_is_database db is))
    (parts_ascend has db.relations is.rows_ascend)
    (parts_pass relation_rows_fit (λ r. refl) has db.relations is.rows_fit)
    (parts_pass (λ (r : Relation). nat_le (length r.rows) most_rows) (λ r. refl) has db.relations is.few_rows)
