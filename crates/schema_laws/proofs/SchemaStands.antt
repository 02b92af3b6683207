-- The schema of a database is a database.
use Rattle.std.proofs.Common.{◌≡◌, refl, sym, subst, ap, ◌∙◌, ℕ, List, [], ◌∷◌, map, length, Option, Some, None}
use Rattle.std.specs.Prelude.{Bool, true, not, ◌&&◌, nat_le, nat_lt, IsTrue, is_some, bytes_eq}
use Rattle.std.specs.List.{AllByRecursion, list_all}
use Rattle.std.specs.List.Sorted.{IsStrictlySortedBy}
use Rattle.calculus.specs.declared.query.RelKey.{RelKey}
use Rattle.calculus.specs.declared.query.Query.{Query}
use Rattle.calculus.specs.declared.query.QQual.{QQual}
use Rattle.calculus.specs.declared.schema.RelInfo.{RelInfo}
use Rattle.calculus.specs.declared.schema.Permit.{Permit}
use Rattle.calculus.specs.Rows.{Ascends}
use Rattle.calculus.specs.Structures.{is_index}
use Rattle.calculus.specs.Lists.{is_any, differ_by}
use Rattle.calculus.specs.Keys.{same_key, key_cmp}
use Rattle.calculus.specs.Limits.{most_entries, most_expanded_variables, greatest_size, most_rows, most_rules, most_permits}
use Rattle.calculus.specs.Kinds.{kind_of, kinds_fit}
use Rattle.calculus.specs.Database.{Db, Relation, Index, View, is_relation, entries, rules_on, permits_on}
use Rattle.calculus.specs.Stored.{Range, range_at, attrs_at, kinds_at}
use Rattle.calculus.specs.QueryParts.{vars_of, targets_of, qual_of}
use Rattle.calculus.specs.IsDatabase.{IsDatabase, key_is_named, valid_structure, attrs_stand, are_stored, relation_rows_fit, keys_stand, valid_index, var_kinds, has_kind, valid_query, vars_are_there, valid_row_qual, user_is_named, permit_attrs_stand, valid_permit}
use Rattle.calculus.specs.Schema.{bare, schema_of}
use Rattle.schema_laws.proofs.Alike.{is_relation_alike, entries_alike, range_alike, attrs_alike, kinds_alike}
use Rattle.schema_laws.proofs.Through.{level_alike}
use Rattle.schema_laws.proofs.Known.{size_alike, expanded_alike}

-- what is asked of the information alone holds of the relations without their rows
all_bare : (test : RelInfo → Bool) (relations : List Relation) → list_all (λ (r : Relation). test r.info) (map bare relations) ≡ list_all (λ r. test r.info) relations
all_bare test [] = refl
all_bare test (r ∷ relations) = ap (λ b. test r.info && b) (all_bare test relations)

keys_bare : (relations : List Relation) → map (λ (r : Relation). r.info.key) (map bare relations) ≡ map (λ r. r.info.key) relations
keys_bare [] = refl
keys_bare (r ∷ relations) = ap (λ ks. r.info.key ∷ ks) (keys_bare relations)

no_rows_ascend : (relations : List Relation) → AllByRecursion (λ (r : Relation). Ascends r.rows) (map bare relations)
unfolding IsStrictlySortedBy
no_rows_ascend [] = tt
no_rows_ascend (r ∷ relations) = (tt, no_rows_ascend relations)

no_rows_fit : (relations : List Relation) → list_all relation_rows_fit (map bare relations) ≡ true
no_rows_fit [] = refl
no_rows_fit (r ∷ relations) = no_rows_fit relations

few_rows_left : (relations : List Relation) → list_all (λ (r : Relation). nat_le (length r.rows) most_rows) (map bare relations) ≡ true
few_rows_left [] = refl
few_rows_left (r ∷ relations) = few_rows_left relations

-- ---- what is asked of indexes, views, rules and permits

index_alike : (db : Db) (x : Index) → valid_index (schema_of db) x ≡ valid_index db x
index_alike db x = λ i.
    is_index x.info.spec && (is_relation_alike db x.base i && (not (is_any x.info.attrs) && (is_any x.info.keys && keys_stand (attrs_alike db x.base i) x.info.keys)))

pub valid_query_alike : (db : Db) (q : Query) → valid_query (schema_of db) q ≡ valid_query db q
valid_query_alike db q = λ i.
    list_all (λ t. has_kind (kind_of t.term (map (λ key. kinds_alike db key i) (vars_of q))) t.kind) (targets_of q)
    && kinds_fit (qual_of q) (map (λ key. kinds_alike db key i) (vars_of q))

pub there_alike : (db : Db) (key : RelKey) → is_some (range_at (schema_of db) key) ≡ is_some (range_at db key)
there_alike db key = range_alike is_some (λ r. refl) db key

pub vars_there_alike : (db : Db) (q : Query) → vars_are_there (schema_of db) q ≡ vars_are_there db q
vars_there_alike db q = λ i. list_all (λ key. there_alike db key i) (vars_of q)

pub row_qual_alike : (db : Db) (rel : RelKey) (q : QQual) → valid_row_qual (schema_of db) rel q ≡ valid_row_qual db rel q
row_qual_alike db rel q = λ i. kinds_fit q (kinds_alike db rel i ∷ [])

pub permit_alike : (db : Db) (rel : RelKey) (permit : Permit) → valid_permit (schema_of db) rel permit ≡ valid_permit db rel permit
unfolding schema_of
permit_alike db rel permit = λ i.
    is_relation_alike db rel i
    && (bytes_eq rel.owner db.dba
    && (user_is_named permit.user
    && (list_all (λ a. nat_lt a (length (attrs_alike db rel i))) permit.attrs && row_qual_alike db rel permit.qual i)))

-- ---- the schema

pub schema_is_database : (db : Db) → IsDatabase db → IsDatabase (schema_of db)
unfolding schema_of
schema_is_database db is = record {
  dba_is_named = is.dba_is_named;
  keys_are_named = ap (list_all (λ i. key_is_named i.key)) (entries_alike db) ∙ is.keys_are_named;
  relations_ascend = subst (IsStrictlySortedBy key_cmp) (sym (keys_bare db.relations)) is.relations_ascend;
  indexes_ascend = is.indexes_ascend;
  views_ascend = is.views_ascend;
  rules_ascend = is.rules_ascend;
  permits_ascend = is.permits_ascend;
  keys_differ = ap (λ (es : List RelInfo). differ_by same_key (map (λ i. i.key) es)) (entries_alike db) ∙ is.keys_differ;
  structures_stand = all_bare valid_structure db.relations ∙ is.structures_stand;
  relation_attrs_stand = all_bare (λ i. attrs_stand i.attrs) db.relations ∙ is.relation_attrs_stand;
  relations_are_stored = all_bare (λ i. are_stored i.attrs) db.relations ∙ is.relations_are_stored;
  rows_ascend = no_rows_ascend db.relations;
  rows_fit = no_rows_fit db.relations;
  indexes_stand = (λ i. list_all (λ x. index_alike db x i) db.indexes) ∙ is.indexes_stand;
  view_infos_stand = is.view_infos_stand;
  view_attrs_stand = is.view_attrs_stand;
  view_attrs_are_targets = is.view_attrs_are_targets;
  views_name_what_is_there = (λ i. list_all (λ (v : View). vars_there_alike db v.query i) db.views) ∙ is.views_name_what_is_there;
  views_have_levels = (λ i. list_all (λ (v : View). is_some (level_alike db v.info.key i)) db.views) ∙ is.views_have_levels;
  view_queries_stand = (λ i. list_all (λ (v : View). valid_query_alike db v.query i) db.views) ∙ is.view_queries_stand;
  rules_stand = (λ i. list_all (λ p. is_relation_alike db p.0 i && row_qual_alike db p.0 p.1.qual i) db.rules) ∙ is.rules_stand;
  permits_stand = (λ i. list_all (λ p. permit_alike db p.0 p.1 i) db.permits) ∙ is.permits_stand;
  few_entries = ap (λ (es : List RelInfo). nat_le (length es) most_entries) (entries_alike db) ∙ is.few_entries;
  few_rows = few_rows_left db.relations;
  few_listed_variables = is.few_listed_variables;
  few_variables = is.few_variables;
  few_expanded_variables = (λ i. list_all (λ (v : View). nat_le (expanded_alike db v.query i) most_expanded_variables) db.views) ∙ is.few_expanded_variables;
  small_views = (λ i. list_all (λ (v : View). nat_le (size_alike db v.query i) greatest_size) db.views) ∙ is.small_views;
  storable_views = is.storable_views;
  storable_rules = is.storable_rules;
  storable_permits = is.storable_permits;
  storable_lists = is.storable_lists;
  few_rules = all_bare (λ i. nat_le (length (rules_on db i.key)) most_rules) db.relations ∙ is.few_rules;
  few_permits = all_bare (λ i. nat_le (length (permits_on db i.key)) most_permits) db.relations ∙ is.few_permits;
  small_rule_numbers = is.small_rule_numbers;
  small_permit_numbers = is.small_permit_numbers;
}
