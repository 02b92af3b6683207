-- A database in which one relation has changed its rows or its structure, and kept its key and attributes.
use Rattle.std.proofs.Common.{◌≡◌, refl, sym, ap, ◌∙◌, subst, suc, nat_le, Bool, true, false, ◌&&◌, cond, IsTrue, List, [], ◌∷◌, ◌++◌, Some, map, length}
use Rattle.std.specs.Prelude.{find}
use Rattle.std.specs.List.{list_all, AllByRecursion}
use Rattle.std.specs.List.Sorted.{IsStrictlySortedBy}
use Rattle.std.specs.declared.cmp.Ordering.TheVariants.{Less, Equal}
use Rattle.std.proofs.lemmas.Cmp.{tied_itself}
use Rattle.std.proofs.lemmas.Map.Keys.{sorted_head, sorted_tail}
use Rattle.calculus.specs.declared.query.RelKey.{RelKey}
use Rattle.calculus.specs.declared.schema.Attr.{Attr}
use Rattle.calculus.specs.declared.schema.RelInfo.{RelInfo}
use Rattle.calculus.specs.Keys.{same_key, key_cmp}
use Rattle.calculus.specs.Lists.{differ_by}
use Rattle.calculus.specs.Rows.{Ascends}
use Rattle.calculus.specs.Limits.{most_entries, most_rows, most_rules, most_permits}
use Rattle.calculus.specs.Database.{Db, Relation, entries, rules_on, permits_on}
use Rattle.calculus.specs.IsDatabase.{IsDatabase, key_is_named, valid_structure, attrs_stand, are_stored, relation_rows_fit}
use Rattle.calculus.specs.Change.{change_at}
use Rattle.plan_laws.proofs.Kept.{both, each}
use Rattle.plan_laws.proofs.Orders.{key_total, same_key_is}
use Rattle.plan_laws.proofs.Alike.{Alike, levels_stay, vars_stay, queries_stay, expansions_stay, sizes_stay, rules_stay, permits_stay, indexes_stay}
use Rattle.plan_laws.proofs.Ranging.{Keeps, changed_at, changed_cases, key_kept, changed_alike}

-- ---- each relation

-- a test that passes for each relation, and for the one that changed where it did before, passes for each
pub all_changed : (rel : RelKey) (f : Relation → Relation) (test : Relation → Bool) (rs : List Relation)
    → AllByRecursion (λ r. same_key r.info.key rel ≡ true → IsTrue (test r) → IsTrue (test (f r))) rs → IsTrue (list_all test rs) → IsTrue (list_all test (change_at rel f rs))
all_changed rel f test [] h t = refl
all_changed rel f test (r ∷ rs) h t =
    let parts = both (test r) (list_all test rs) t in
    each (test (changed_at rel f r)) (list_all test (change_at rel f rs)) (changed_cases rel f (λ s. IsTrue (test s)) r (λ e. h.0 e parts.0) parts.0) (all_changed rel f test rs h.1 parts.1)

-- the same for what isn't a truth value
pub each_changed : (rel : RelKey) (f : Relation → Relation) (P : Relation → Type 0) (rs : List Relation)
    → AllByRecursion (λ r. same_key r.info.key rel ≡ true → P r → P (f r)) rs → AllByRecursion P rs → AllByRecursion P (change_at rel f rs)
each_changed rel f P [] h t = tt
each_changed rel f P (r ∷ rs) h t = (changed_cases rel f P r (λ e. h.0 e t.0) t.0, each_changed rel f P rs h.1 t.1)

pub each_maps : {X : Type 0} (P Q : X → Type 0) (xs : List X) → AllByRecursion P xs → ((x : X) → P x → Q x) → AllByRecursion Q xs
each_maps P Q [] h f = tt
each_maps P Q (x ∷ xs) h f = (f x h.0, each_maps P Q xs h.1 f)

pub for_each : {X : Type 0} (P : X → Type 0) (xs : List X) → ((x : X) → P x) → AllByRecursion P xs
for_each P [] f = tt
for_each P (x ∷ xs) f = (f x, for_each P xs f)

-- a test of key and attributes is the same for each
pub keys_same : (rel : RelKey) (f : Relation → Relation) → Keeps f → (rs : List Relation) → map (λ r. r.info.key) (change_at rel f rs) ≡ map (λ r. r.info.key) rs
keys_same rel f keeps [] = refl
keys_same rel f keeps (r ∷ rs) = λ i. key_kept rel f keeps r i ∷ keys_same rel f keeps rs i

-- ---- the one under a key

-- each relation with this key is the one that stands under it
pub owned : (rel : RelKey) (rs : List Relation) → IsStrictlySortedBy key_cmp (map (λ r. r.info.key) rs)
    → AllByRecursion (λ r. same_key r.info.key rel ≡ true → find (λ r. same_key r.info.key rel) rs ≡ Some r) rs
owned rel [] h = tt
owned rel (r ∷ rs) h = (
  λ e. ap (λ b. cond b (Some r) (find (λ r. same_key r.info.key rel) rs)) e,
  behind rs (sorted_head key_cmp r.info.key (map (λ r. r.info.key) rs) h) (owned rel rs (sorted_tail key_cmp r.info.key (map (λ r. r.info.key) rs) h)),
)
  where
    not_first : (b : Bool) → same_key r.info.key rel ≡ b → (s : Relation) → key_cmp r.info.key s.info.key ≡ Less → same_key s.info.key rel ≡ true → same_key r.info.key rel ≡ false
    not_first false e s less t = e
    not_first true e s less t =
        let one : r.info.key ≡ s.info.key = same_key_is r.info.key rel e ∙ sym (same_key_is s.info.key rel t) in
        let f : Less ≡ Equal = sym less ∙ ap (key_cmp r.info.key) (sym one) ∙ tied_itself key_total r.info.key in
        cc f

    behind : (ss : List Relation) → AllByRecursion (λ k. key_cmp r.info.key k ≡ Less) (map (λ r. r.info.key) ss)
        → AllByRecursion (λ s. same_key s.info.key rel ≡ true → find (λ r. same_key r.info.key rel) rs ≡ Some s) ss
        → AllByRecursion (λ s. same_key s.info.key rel ≡ true → find (λ r. same_key r.info.key rel) (r ∷ rs) ≡ Some s) ss
    behind [] less own = tt
    behind (s ∷ ss) less own =
        (λ t. ap (λ b. cond b (Some r) (find (λ r. same_key r.info.key rel) rs)) (not_first (same_key r.info.key rel) refl s less.0 t) ∙ own.0 t, behind ss less.1 own.1)

-- ---- the database

-- the changed relation still has a structure and a set of rows that fit and are not too many
pub record ChangeStands (db : Db) (rel : RelKey) (f : Relation → Relation) : Type 0 where
  pub structure : AllByRecursion (λ r. same_key r.info.key rel ≡ true → IsTrue (valid_structure r.info) → IsTrue (valid_structure (f r).info)) db.relations
  pub ascend : AllByRecursion (λ r. same_key r.info.key rel ≡ true → Ascends r.rows → Ascends (f r).rows) db.relations
  pub fit : AllByRecursion (λ r. same_key r.info.key rel ≡ true → IsTrue (relation_rows_fit r) → IsTrue (relation_rows_fit (f r))) db.relations
  pub few : AllByRecursion (λ r. same_key r.info.key rel ≡ true → IsTrue (nat_le (length r.rows) most_rows) → IsTrue (nat_le (length (f r).rows) most_rows)) db.relations

entry_keys : (rel : RelKey) (f : Relation → Relation) → Keeps f → (rs : List Relation) (others : List RelInfo)
    → map (λ i. i.key) (map (λ r. r.info) (change_at rel f rs) ++ others) ≡ map (λ i. i.key) (map (λ r. r.info) rs ++ others)
entry_keys rel f keeps [] others = refl
entry_keys rel f keeps (r ∷ rs) others = λ i. key_kept rel f keeps r i ∷ entry_keys rel f keeps rs others i

entry_number : (rel : RelKey) (f : Relation → Relation) (rs : List Relation) (others : List RelInfo)
    → length (map (λ r. r.info) (change_at rel f rs) ++ others) ≡ length (map (λ r. r.info) rs ++ others)
entry_number rel f [] others = refl
entry_number rel f (r ∷ rs) others = ap suc (entry_number rel f rs others)

all_keys : (test : RelKey → Bool) (es : List RelInfo) → list_all (λ i. test i.key) es ≡ list_all test (map (λ i. i.key) es)
all_keys test [] = refl
all_keys test (e ∷ es) = ap (λ b. test e.key && b) (all_keys test es)

pub with_changed : (db : Db) (rel : RelKey) (f : Relation → Relation) → Keeps f → ChangeStands db rel f → IsDatabase db → IsDatabase (record db { relations = change_at rel f db.relations })
with_changed db rel f keeps stands is = record {
  dba_is_named = is.dba_is_named;
  keys_are_named = all_keys key_is_named (entries later) ∙ ap (list_all key_is_named) same_keys ∙ sym (all_keys key_is_named (entries db)) ∙ is.keys_are_named;
  relations_ascend = subst (IsStrictlySortedBy key_cmp) (sym (keys_same rel f keeps db.relations)) is.relations_ascend;
  indexes_ascend = is.indexes_ascend;
  views_ascend = is.views_ascend;
  rules_ascend = is.rules_ascend;
  permits_ascend = is.permits_ascend;
  keys_differ = ap (differ_by same_key) same_keys ∙ is.keys_differ;
  structures_stand = all_changed rel f (λ r. valid_structure r.info) db.relations stands.structure is.structures_stand;
  relation_attrs_stand = all_changed rel f (λ r. attrs_stand r.info.attrs) db.relations (of_attrs attrs_stand) is.relation_attrs_stand;
  relations_are_stored = all_changed rel f (λ r. are_stored r.info.attrs) db.relations (of_attrs are_stored) is.relations_are_stored;
  rows_ascend = each_changed rel f (λ r. Ascends r.rows) db.relations stands.ascend is.rows_ascend;
  rows_fit = all_changed rel f relation_rows_fit db.relations stands.fit is.rows_fit;
  indexes_stand = sym (indexes_stay db later alike db.indexes) ∙ is.indexes_stand;
  view_infos_stand = is.view_infos_stand;
  view_attrs_stand = is.view_attrs_stand;
  view_attrs_are_targets = is.view_attrs_are_targets;
  views_name_what_is_there = sym (vars_stay db later alike db.views) ∙ is.views_name_what_is_there;
  views_have_levels = sym (levels_stay db later alike db.views) ∙ is.views_have_levels;
  view_queries_stand = sym (queries_stay db later alike db.views) ∙ is.view_queries_stand;
  rules_stand = sym (rules_stay db later alike db.rules) ∙ is.rules_stand;
  permits_stand = sym (permits_stay db later alike refl db.permits) ∙ is.permits_stand;
  few_entries = ap (λ n. nat_le n most_entries) (entry_number rel f db.relations others) ∙ is.few_entries;
  few_rows = all_changed rel f (λ r. nat_le (length r.rows) most_rows) db.relations stands.few is.few_rows;
  few_listed_variables = is.few_listed_variables;
  few_variables = is.few_variables;
  few_expanded_variables = sym (expansions_stay db later alike db.views) ∙ is.few_expanded_variables;
  small_views = sym (sizes_stay db later alike db.views) ∙ is.small_views;
  storable_views = is.storable_views;
  storable_rules = is.storable_rules;
  storable_permits = is.storable_permits;
  storable_lists = is.storable_lists;
  few_rules = all_changed rel f (λ r. nat_le (length (rules_on db r.info.key)) most_rules) db.relations (of_key (λ key. nat_le (length (rules_on db key)) most_rules)) is.few_rules;
  few_permits = all_changed rel f (λ r. nat_le (length (permits_on db r.info.key)) most_permits) db.relations (of_key (λ key. nat_le (length (permits_on db key)) most_permits)) is.few_permits;
  small_rule_numbers = is.small_rule_numbers;
  small_permit_numbers = is.small_permit_numbers;
}
  where
    later : Db
    later = record db { relations = change_at rel f db.relations }

    alike : Alike db later
    alike = changed_alike db rel f db.indexes keeps

    others : List RelInfo
    others = map (λ v. v.info) db.views ++ map (λ x. x.info) db.indexes

    same_keys : map (λ i. i.key) (entries later) ≡ map (λ i. i.key) (entries db)
    same_keys = entry_keys rel f keeps db.relations others

    of_attrs : (test : List Attr → Bool) → AllByRecursion (λ r. same_key r.info.key rel ≡ true → IsTrue (test r.info.attrs) → IsTrue (test (f r).info.attrs)) db.relations
    of_attrs test = for_each (λ r. same_key r.info.key rel ≡ true → IsTrue (test r.info.attrs) → IsTrue (test (f r).info.attrs)) db.relations (λ r e t. ap test (keeps.attrs r) ∙ t)

    of_key : (test : RelKey → Bool) → AllByRecursion (λ r. same_key r.info.key rel ≡ true → IsTrue (test r.info.key) → IsTrue (test (f r).info.key)) db.relations
    of_key test = for_each (λ r. same_key r.info.key rel ≡ true → IsTrue (test r.info.key) → IsTrue (test (f r).info.key)) db.relations (λ r e t. ap test (keeps.key r) ∙ t)
