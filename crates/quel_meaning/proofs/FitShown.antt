-- What `print` and `help` ask for is fit.
use Rattle.std.proofs.Common.{◌≡◌, refl, sym, ap, ◌∙◌, subst, ℕ, suc, ◌+◌, ◌≤◌, nat_le, slice_get, Bool, true, false, ◌&&◌, not, List, [], ◌∷◌, ◌++◌, map, length, take, drop, Option, Some, None, is_some, arith}
use Rattle.std.specs.List.{list_all, enumerate_from, flat_map, sum_by}
use Rattle.std.specs.Option.{option_map}
use Rattle.std.specs.Str.{bytes_eq}
use Rattle.std.proofs.lemmas.Bool.{le-leb, eq-eqb}
use Rattle.std.proofs.lemmas.List.{length-map}
use Rattle.std.proofs.lemmas.List.FromFn.{length-enumerate_from}
use Rattle.calculus.proofs.Forms.{items_of_targets}
use Rattle.calculus.specs.declared.value.Domain.TheVariants.{I1, I2, I4, C}
use Rattle.calculus.specs.declared.value.Kind.{Kind}
use Rattle.calculus.specs.declared.value.Kind.TheVariants.{Of, Wide}
use Rattle.calculus.specs.declared.query.RelKey.{RelKey}
use Rattle.calculus.specs.declared.query.Query.{Query}
use Rattle.calculus.specs.declared.query.QAgg.{QAgg}
use Rattle.calculus.specs.declared.query.QQual.{QQual, True}
use Rattle.calculus.specs.declared.query.QTerm.TheVariants as qterm
use Rattle.calculus.specs.declared.query.Target.{Target}
use Rattle.calculus.specs.declared.schema.Attr.{Attr}
use Rattle.calculus.specs.declared.schema.RelInfo.{RelInfo}
use Rattle.calculus.specs.declared.statement.Statement.TheVariants as statement
use Rattle.calculus.specs.Catalogue.{is_catalogue_name, catalogue_at, relation_key, attribute_key, relation_info, attribute_info, relation_attrs, attribute_attrs, relation_row, attribute_rows, all_entries}
use Rattle.calculus.specs.Database.{Db, Relation, View, relation_at, view_at, entries}
use Rattle.calculus.specs.IsDatabase.{IsDatabase, key_is_named, attrs_stand, has_kind, same_kind}
use Rattle.calculus.specs.Keys.{same_key}
use Rattle.calculus.specs.Kinds.{attribute_kind, is_text_kind}
use Rattle.calculus.specs.Limits.{most_attributes, most_expanded_variables}
use Rattle.calculus.specs.Lists.{is_any}
use Rattle.calculus.specs.Name.{is_name}
use Rattle.calculus.specs.QueryParts.{targets_of, qual_of, term_aggregates, qual_aggregates, query_aggregates}
use Rattle.calculus.specs.Rows.{set_of}
use Rattle.calculus.specs.Sizes.{measure_of, source_variables, expanded_variables}
use Rattle.calculus.specs.Stored.{Range, Kept, Viewed, range_at, range_info, info_at, attrs_in, kinds_at}
use Rattle.calculus.specs.Tree.{query, both, either}
use Rattle.calculus.specs.Used.{used_in_query}
use Rattle.quel_meaning.specs.Scope.{Scope, named, key_found}
use Rattle.quel_meaning.specs.Naming.{Relation as RelationNamed, mentions, no_refusal, name_refusal}
use Rattle.quel_meaning.specs.KindsInQueries.{kind_in_query, kinds_fit_in_query, query_fits}
use Rattle.quel_meaning.specs.WrittenQuery.{attr_targets}
use Rattle.quel_meaning.specs.Resolved.{unsorted, whole, is_name_at, help_on_all, help_on, tree_of}
use Rattle.quel_meaning.specs.FitQueries.{can_be_ranged_over, kept_or_viewed, source_fits, slots_count_from, has_few_targets, reads_fit, asked_fits}
use Rattle.quel_meaning.specs.Fit.{suits}
use Rattle.quel_meaning.proofs.DatabaseFacts.{found_passes, info_stands, stood}
use Rattle.quel_meaning.proofs.Each.{Each, front_of, back_of, of_map, in_map, each_to, passed, each_passes, right, and}
use Rattle.quel_meaning.proofs.Few.{some_measures}
use Rattle.quel_meaning.proofs.FewExpanded.{few_variables_in}
use Rattle.quel_meaning.proofs.Found.{IsFound, names_found, named_with, named_again}
use Rattle.quel_meaning.proofs.Keys.{keys_same, same_keys, find_passes}
use Rattle.quel_meaning.proofs.Slots.{in_targets, none_in_attrs}

-- ---- a query over one variable without aggregates

pub shown : (db : Db) → IsDatabase db → (key : RelKey) (ts : List Target) (qual : QQual) → can_be_ranged_over db key ≡ true → query_aggregates (query (key ∷ []) ts qual) ≡ []
    → has_few_targets (query (key ∷ []) ts qual) ≡ true → query_fits db (query (key ∷ []) ts qual) ≡ true → asked_fits (kept_or_viewed db) db (unsorted (query (key ∷ []) ts qual)) ≡ true
unfolding asked_fits reads_fit expanded_variables
shown db is key ts qual there none few fit =
    and _ _
    (and _ _ (and _ _ there refl)
    (and _ _ (subst (λ gs. list_all (λ (g : QAgg). source_fits (kept_or_viewed db) db g.source) gs ≡ true) (sym none) refl)
    (and _ _ (subst (λ gs. slots_count_from 0 gs ≡ true) (sym none) refl) (and _ _ refl few))))
    (and _ _ fit (and _ _ (le-leb _ _ counted) refl))
  where
    q : Query
    q = query (key ∷ []) ts qual

    nothing : sum_by (λ (g : QAgg). source_variables (measure_of db) g.source) (query_aggregates q) ≡ 0
    nothing = ap (sum_by (λ (g : QAgg). source_variables (measure_of db) g.source)) none

    counted : expanded_variables db q ≤ most_expanded_variables
    counted = omega (arith, some_measures db q (λ p. is_any (used_in_query p.0 q)), nothing, few_variables_in db is key)

-- ---- all attributes of what was found

same_itself : (k : Kind) → same_kind k k ≡ true
same_itself Wide = refl
same_itself (Of I1) = refl
same_itself (Of I2) = refl
same_itself (Of I4) = refl
same_itself (Of (C n)) = eq-eqb n n refl

kinds_kept : (db : Db) (kinds : List Kind) (k : ℕ) (attrs : List Attr) → ((i : ℕ) → slice_get kinds (k + i) ≡ slice_get (map (λ (a : Attr). a.kind) attrs) i)
    → Each (λ (t : Target). has_kind (kind_in_query db t.term (kinds ∷ [])) t.kind ≡ true) (map (λ (p : ℕ × Attr). record { name = p.1.name; kind = p.1.kind; term = qterm.Attr 0 p.0 }) (enumerate_from k attrs))
unfolding kind_in_query attribute_kind
kinds_kept db kinds k [] h = tt
kinds_kept db kinds k (a ∷ attrs) h =
    let here : k + 0 ≡ k = omega arith in
    let kind : slice_get kinds k ≡ Some a.kind = subst (λ n. slice_get kinds n ≡ Some a.kind) here (h 0) in
    (subst (λ o. has_kind o a.kind ≡ true) (sym kind) (same_itself a.kind), kinds_kept db kinds (k + 1) attrs (λ i. later i ∙ h (suc i)))
  where
    later : (i : ℕ) → slice_get kinds (k + 1 + i) ≡ slice_get kinds (k + suc i)
    later i = let e : k + 1 + i ≡ k + suc i = omega arith in ap (slice_get kinds) e

from_0 : (kinds : List Kind) (i : ℕ) → slice_get kinds (0 + i) ≡ slice_get kinds i
from_0 kinds i = let e : 0 + i ≡ i = omega arith in ap (slice_get kinds) e

whole_none : (info : RelInfo) → query_aggregates (query (info.key ∷ []) (attr_targets 0 info.attrs) True) ≡ []
unfolding qual_aggregates
whole_none info = ap (λ ts. in_targets ts ++ []) (items_of_targets (attr_targets 0 info.attrs)) ∙ ap (λ gs. gs ++ []) (none_in_attrs 0 0 info.attrs)

whole_few : (info : RelInfo) → attrs_stand info.attrs ≡ true → has_few_targets (query (info.key ∷ []) (attr_targets 0 info.attrs) True) ≡ true
whole_few info h =
    subst (λ n. nat_le n most_attributes ≡ true)
    (sym (ap length (items_of_targets (attr_targets 0 info.attrs)) ∙ length-map (enumerate_from 0 info.attrs) (λ (p : ℕ × Attr). record { name = p.1.name; kind = p.1.kind; term = qterm.Attr 0 p.0 }) ∙ length-enumerate_from 0 info.attrs))
    (stood info.attrs h).few

whole_kinds : (db : Db) (info : RelInfo) → info_at db info.key ≡ Some info → query_fits db (query (info.key ∷ []) (attr_targets 0 info.attrs) True) ≡ true
unfolding query_fits kinds_fit_in_query
whole_kinds db info h =
    and _ _
    (passed (λ (t : Target). has_kind (kind_in_query db t.term (kinds_at db info.key ∷ [])) t.kind) _
    (subst (λ ts. Each (λ (t : Target). has_kind (kind_in_query db t.term (kinds_at db info.key ∷ [])) t.kind ≡ true) ts) (sym (items_of_targets (attr_targets 0 info.attrs)))
    (kinds_kept db (kinds_at db info.key) 0 info.attrs (λ i. from_0 (kinds_at db info.key) i ∙ ap (λ o. slice_get (map (λ (a : Attr). a.kind) (attrs_in o)) i) h))))
    refl

pub whole_fits : (db : Db) → IsDatabase db → (info : RelInfo) → info_at db info.key ≡ Some info → asked_fits (kept_or_viewed db) db (whole (Some info)) ≡ true
whole_fits db is info h =
    shown db is info.key (attr_targets 0 info.attrs) True (ap is_some h) (whole_none info) (whole_few info (info_stands db is info.key info h)) (whole_kinds db info h)

pub print_fits : (s : Scope) → IsDatabase s.db → (rels : List (List ℕ)) → name_refusal s (statement.Print rels) ≡ None
    → suits (kept_or_viewed s.db) s.db s.user (tree_of s (statement.Print rels)) ≡ true
unfolding tree_of suits mentions
print_fits s is rels h =
    passed (asked_fits (kept_or_viewed s.db) s.db) _
    (in_map _ (λ rel. whole (named s rel)) rels (each_to _ _ each rels (of_map (IsFound s) RelationNamed rels (names_found s (statement.Print rels) h))))
  where
    each : (rel : List ℕ) → IsFound s (RelationNamed rel) → asked_fits (kept_or_viewed s.db) s.db (whole (named s rel)) ≡ true
    each rel found =
        let r = named_with s no_refusal rel found in
        subst (λ o. asked_fits (kept_or_viewed s.db) s.db (whole o) ≡ true) (sym r.is) (whole_fits s.db is r.info (named_again s rel r))

-- ---- the catalogues are found

no_relation : (db : Db) → IsDatabase db → (key : RelKey) → is_catalogue_name key.name ≡ true → relation_at db key ≡ None
no_relation db is key h = go (relation_at db key) refl
  where
    named_so : list_all (λ (r : Relation). key_is_named r.info.key) db.relations ≡ true
    named_so = passed (λ (r : Relation). key_is_named r.info.key) db.relations (of_map _ (λ (r : Relation). r.info) db.relations (front_of _ (map (λ (r : Relation). r.info) db.relations) _ (each_passes (λ (i : RelInfo). key_is_named i.key) (entries db) is.keys_are_named)))

    go : (o : Option Relation) → relation_at db key ≡ o → o ≡ None
    go None e = refl
    go (Some r) e =
        let named : key_is_named r.info.key ≡ true = found_passes (λ (x : Relation). same_key x.info.key key) (λ (r : Relation). key_is_named r.info.key) db.relations r named_so e in
        let none : not (is_catalogue_name r.info.key.name) ≡ true = right (is_name r.info.key.name) _ (right (is_name r.info.key.owner) _ named) in
        let same : is_catalogue_name r.info.key.name ≡ is_catalogue_name key.name = ap (λ (k : RelKey). is_catalogue_name k.name) (same_keys r.info.key key (find_passes (λ (x : Relation). same_key x.info.key key) db.relations r e)) in
        absurd (cc (subst (λ b. not b ≡ true) (same ∙ h) none))

no_view : (db : Db) → IsDatabase db → (key : RelKey) → is_catalogue_name key.name ≡ true → view_at db key ≡ None
no_view db is key h = go (view_at db key) refl
  where
    named_so : list_all (λ (v : View). key_is_named v.info.key) db.views ≡ true
    named_so =
        passed (λ (v : View). key_is_named v.info.key) db.views
        (of_map _ (λ (v : View). v.info) db.views (front_of _ (map (λ (v : View). v.info) db.views) _ (back_of _ (map (λ (r : Relation). r.info) db.relations) _ (each_passes (λ (i : RelInfo). key_is_named i.key) (entries db) is.keys_are_named))))

    go : (o : Option View) → view_at db key ≡ o → o ≡ None
    go None e = refl
    go (Some v) e =
        let named : key_is_named v.info.key ≡ true = found_passes (λ (x : View). same_key x.info.key key) (λ (v : View). key_is_named v.info.key) db.views v named_so e in
        let none : not (is_catalogue_name v.info.key.name) ≡ true = right (is_name v.info.key.name) _ (right (is_name v.info.key.owner) _ named) in
        let same : is_catalogue_name v.info.key.name ≡ is_catalogue_name key.name = ap (λ (k : RelKey). is_catalogue_name k.name) (same_keys v.info.key key (find_passes (λ (x : View). same_key x.info.key key) db.views v e)) in
        absurd (cc (subst (λ b. not b ≡ true) (same ∙ h) none))

-- where neither a relation nor a view stands under a key, the catalogue is found
catalogue_found : (db : Db) (key : RelKey) (r : Relation) → relation_at db key ≡ None → view_at db key ≡ None → catalogue_at db key ≡ Some r → info_at db key ≡ Some r.info
unfolding info_at range_at
catalogue_found db key r e f g =
    ap (λ (o : Option Relation). option_map range_info (elim o as (λ x. Option Range) [ Some relation ↦ Some (Kept relation) | None ↦ elim (view_at db key) [ Some view ↦ Some (Viewed view) | None ↦ option_map Kept (catalogue_at db key) ] ])) e
    ∙ ap (λ (o : Option View). option_map range_info (elim o as (λ x. Option Range) [ Some view ↦ Some (Viewed view) | None ↦ option_map Kept (catalogue_at db key) ])) f
    ∙ ap (λ (o : Option Relation). option_map range_info (option_map Kept o)) g

is_relation_catalogue : (db : Db) → catalogue_at db (relation_key db) ≡ Some (record { info = relation_info db; rows = set_of (map relation_row (all_entries db)) })
unfolding catalogue_at
is_relation_catalogue db = go (same_key (relation_key db) (relation_key db)) (keys_same (relation_key db) (relation_key db) refl)
  where
    go : (b : Bool) → b ≡ true
        → ◌≡◌ {A = Option Relation} (elim b [
          | true ↦ Some (record { info = relation_info db; rows = set_of (map relation_row (all_entries db)) })
          | false ↦ elim (same_key (relation_key db) (attribute_key db)) [ true ↦ Some (record { info = attribute_info db; rows = set_of (flat_map attribute_rows (all_entries db)) }) | false ↦ None ]
        ]) (Some (record { info = relation_info db; rows = set_of (map relation_row (all_entries db)) }))
    go true e = refl
    go false e = absurd (cc e)

never : (b : Bool) → (b && false) ≡ false
never true = refl
never false = refl

is_attribute_catalogue : (db : Db) → catalogue_at db (attribute_key db) ≡ Some (record { info = attribute_info db; rows = set_of (flat_map attribute_rows (all_entries db)) })
unfolding catalogue_at
is_attribute_catalogue db = go (same_key (attribute_key db) (relation_key db)) (same_key (attribute_key db) (attribute_key db)) (never (bytes_eq db.dba db.dba)) (keys_same (attribute_key db) (attribute_key db) refl)
  where
    go : (a b : Bool) → a ≡ false → b ≡ true
        → ◌≡◌ {A = Option Relation} (elim a [
          | true ↦ Some (record { info = relation_info db; rows = set_of (map relation_row (all_entries db)) })
          | false ↦ elim b [ true ↦ Some (record { info = attribute_info db; rows = set_of (flat_map attribute_rows (all_entries db)) }) | false ↦ None ]
        ]) (Some (record { info = attribute_info db; rows = set_of (flat_map attribute_rows (all_entries db)) }))
    go true b e f = absurd (cc e)
    go false true e f = refl
    go false false e f = absurd (cc f)

relation_found : (db : Db) → IsDatabase db → info_at db (relation_key db) ≡ Some (relation_info db)
relation_found db is = catalogue_found db (relation_key db) _ (no_relation db is (relation_key db) refl) (no_view db is (relation_key db) refl) (is_relation_catalogue db)

attribute_found : (db : Db) → IsDatabase db → info_at db (attribute_key db) ≡ Some (attribute_info db)
attribute_found db is = catalogue_found db (attribute_key db) _ (no_relation db is (attribute_key db) refl) (no_view db is (attribute_key db) refl) (is_attribute_catalogue db)

-- the kinds in a query over one variable whose attributes have these kinds
fits_over : Db → Query → List Kind → Bool
fits_over db q kinds = list_all (λ (t : Target). has_kind (kind_in_query db t.term (kinds ∷ [])) t.kind) (targets_of q) && kinds_fit_in_query db (qual_of q) (kinds ∷ [])

kinds_found : (db : Db) (info : RelInfo) → info_at db info.key ≡ Some info → kinds_at db info.key ≡ map (λ (a : Attr). a.kind) info.attrs
kinds_found db info h = ap (λ o. map (λ (a : Attr). a.kind) (attrs_in o)) h

help_all_kinds : (s : Scope) → IsDatabase s.db → query_fits s.db (help_on_all s).query ≡ true
unfolding query_fits kind_in_query kinds_fit_in_query attribute_kind is_text_kind fits_over
help_all_kinds s is = subst (λ kinds. fits_over s.db (help_on_all s).query kinds ≡ true) (sym (kinds_found s.db (relation_info s.db) (relation_found s.db is))) refl

pub help_all_fits : (s : Scope) → IsDatabase s.db → asked_fits (kept_or_viewed s.db) s.db (help_on_all s) ≡ true
unfolding term_aggregates qual_aggregates
help_all_fits s is = shown s.db is (relation_key s.db) (take 3 (attr_targets 0 relation_attrs)) (either (is_name_at 1 s.user) (is_name_at 1 s.db.dba)) (ap is_some (relation_found s.db is)) refl refl (help_all_kinds s is)

help_kinds : (s : Scope) → IsDatabase s.db → (info : Option RelInfo) → query_fits s.db (help_on s info).query ≡ true
unfolding query_fits kind_in_query kinds_fit_in_query attribute_kind is_text_kind fits_over
help_kinds s is info = subst (λ kinds. fits_over s.db (help_on s info).query kinds ≡ true) (sym (kinds_found s.db (attribute_info s.db) (attribute_found s.db is))) refl

pub help_fits : (s : Scope) → IsDatabase s.db → (info : Option RelInfo) → asked_fits (kept_or_viewed s.db) s.db (help_on s info) ≡ true
unfolding term_aggregates qual_aggregates
help_fits s is info = shown s.db is (attribute_key s.db) (drop 2 (attr_targets 0 attribute_attrs)) (both (is_name_at 0 (key_found info).name) (is_name_at 1 (key_found info).owner)) (ap is_some (attribute_found s.db is)) refl refl (help_kinds s is info)
