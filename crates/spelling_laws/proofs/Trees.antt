-- Trees that fit are short, where those of their lists are that nothing else bounds.
use Rattle.std.proofs.Common.{◌≡◌, refl, sym, true≢false, ℕ, ◌≤◌, ◌<◌, Bool, true, false, ◌&&◌, ◌||◌, List, [], ◌∷◌, map, length, Option, Some, None, arith}
use Rattle.std.specs.Prelude.{is_some, nat_le, nat_lt, nat_eq, slice_get}
use Rattle.std.specs.List.{list_all}
use Rattle.std.proofs.lemmas.Bool.{and_parts, leb-true, ltb-true, eqb-true}
use Rattle.std.proofs.lemmas.List.{length-map}
use Rattle.calculus.specs.declared.query.QQual.{QQual}
use Rattle.calculus.specs.declared.query.Query.{Query}
use Rattle.calculus.specs.declared.query.RelKey.{RelKey}
use Rattle.calculus.specs.declared.query.Target.{Target}
use Rattle.calculus.specs.declared.request.Asked.{Asked}
use Rattle.calculus.specs.declared.request.SortKey.{SortKey}
use Rattle.calculus.specs.declared.request.Checked.{Checked}
use Rattle.calculus.specs.declared.request.Checked.TheVariants as checked
use Rattle.calculus.specs.declared.request.CopyCol.{CopyCol}
use Rattle.calculus.specs.declared.request.Update.{Update}
use Rattle.calculus.specs.declared.request.UpdateOp.{UpdateOp}
use Rattle.calculus.specs.declared.request.UpdateOp.TheVariants as op
use Rattle.calculus.specs.declared.request.Utility.{Utility}
use Rattle.calculus.specs.declared.request.Utility.TheVariants as utility
use Rattle.calculus.specs.declared.schema.Attr.{Attr as Attribute}
use Rattle.calculus.specs.Database.{Db, is_relation, is_there}
use Rattle.calculus.specs.IsDatabase.{IsDatabase, attrs_stand, are_stored, is_kind, keys_stand, var_kinds, valid_query, vars_are_there, valid_row_qual, permit_attrs_stand}
use Rattle.calculus.specs.Keys.{same_key}
use Rattle.calculus.specs.Kinds.{comparable, kinds_fit}
use Rattle.calculus.specs.Limits.{most_attributes, most_expanded_variables, most_listed_attributes, most_keys}
use Rattle.calculus.specs.Lists.{is_any, differ_by}
use Rattle.calculus.specs.Name.{is_name}
use Rattle.calculus.specs.QueryParts.{vars_of, targets_of, qual_of}
use Rattle.calculus.specs.Replacement.{made_attr}
use Rattle.calculus.specs.Sizes.{update_expanded_variables}
use Rattle.calculus.specs.Spelled.{query_is_spelled}
use Rattle.calculus.specs.Storable.{row_qual_is_small}
use Rattle.calculus.specs.Stored.{range_at, attrs_at, kinds_at}
use Rattle.calculus.specs.Structures.{is_structure}
use Rattle.quel_meaning.specs.Columns.{is_copy_form}
use Rattle.quel_meaning.specs.Fit.{new_attrs, places_fit, update_kinds_fit, checks_fit, is_this_key, is_new, relation_fits, update_fits, is_entry, columns_fit, view_fits, row_qual_fits, listed_attrs_fit, utility_fits, suits}
use Rattle.quel_meaning.specs.FitQueries.{Allowed, can_be_ranged_over, lists_few_vars, reads_fit, sort_is_in_range, asked_fits}
use Rattle.quel_meaning.specs.KindsInQueries.{kind_in_query, kinds_fit_in_query, query_fits, assignments_fit}
use Rattle.quel_meaning.specs.Planned.{target_attr}
use Rattle.quel_meaning.specs.SpelledTree.{key_is_spelled, made_key_is_spelled, update_is_spelled, utility_is_spelled, tree_is_spelled}
use Rattle.quel_meaning.proofs.DatabaseFacts.{stood}
use Rattle.quel_meaning.proofs.Each.{Each, each_to, each_passes, and}
use Rattle.quel_meaning.proofs.LawfulKinds.{IsKind}
use Rattle.quel_meaning.proofs.Pigeons.{at_most}
use Rattle.tree_laws.proofs.FitUpdated.{relation_kept}
use Rattle.spelling_laws.specs.Short.{is_place, is_count, is_number, are_short, qual_is_short, query_is_short, asked_is_short, update_is_short, permit_is_short, rule_is_short, attr_is_short, column_is_short, utility_is_short, tree_is_short}
use Rattle.spelling_laws.proofs.Named.{IsNamed, ranged_named, there_named, entries_named, few_attrs_at, few_kinds_at}
use Rattle.spelling_laws.proofs.Numbers.{There, place_is, count_is, short_is, get_there, places_are}
use Rattle.spelling_laws.proofs.Queries.{FewIn, Ranged, kept_there, few_vars_in, few_targets_in, plain_query_short, query_short, targets_kinds}
use Rattle.spelling_laws.proofs.Terms.{few_one, comparable_there, plain_qual_short}

-- ---- what nothing else bounds

-- of a utility: how many are destroyed, and the numbers of permits and rules
abbrev pub FewWork : Utility → Type 0
FewWork (utility.Destroy rels) = length rels ≤ 65535
FewWork (utility.Permit rel permit) = is_number permit.number ≡ true
FewWork (utility.Rule rel rule) = is_number rule.number ≡ true
FewWork (utility.DropPermits rel numbers) = are_short is_number numbers ≡ true
FewWork (utility.DropRules rel numbers) = are_short is_number numbers ≡ true
FewWork _ = Unit {0}

-- of a query that is asked: its aggregates and its columns to sort by
pub record FewAsked (a : Asked) : Type 0 where
  pub query : FewIn a.query
  pub sort : length a.sort ≤ 65535

-- of a tree: how many queries are asked, and of an update its aggregates, and that at most so many qualifications must hold of new rows
abbrev pub FewTree : ℕ → Checked → Type 0
FewTree n (checked.Answer asked) = (length asked ≤ 65535) × Each FewAsked asked
FewTree n (checked.Update u) = FewIn u.query × (length u.checks ≤ n)
FewTree n (checked.Utility work) = FewWork work

pub fewer : (m n : ℕ) → m ≤ n → (tree : Checked) → FewTree m tree → FewTree n tree
fewer m n h (checked.Answer asked) few = few
fewer m n h (checked.Update u) few = let checks = few.1 in (few.0, omega (arith, h, checks))
fewer m n h (checked.Utility work) few = few

-- ---- trees

six : (a b c d e f : Bool) → a ≡ true → b ≡ true → c ≡ true → d ≡ true → e ≡ true → f ≡ true → (a && (b && (c && (d && (e && f))))) ≡ true
six a b c d e f p q r s t u = and a (b && (c && (d && (e && f)))) p (and b (c && (d && (e && f))) q (and c (d && (e && f)) r (and d (e && f) s (and e f t u))))

module _ (db : Db) (d : IsDatabase db) where
  pub relation_named : (key : RelKey) → is_relation db key ≡ true → IsNamed key
  relation_named key h = ranged_named db d key (kept_there db key (relation_kept db key h))

  entry_named : (key : RelKey) → is_entry db key ≡ true → IsNamed key
  entry_named key h = go (is_there db key) refl h
    where
      go : (b : Bool) → is_there db key ≡ b → (b || can_be_ranged_over db key) ≡ true → IsNamed key
      go true e h = entries_named db d key e
      go false e h = ranged_named db d key h

  pub keys_short : (key : RelKey) (keys : List ℕ) → keys_stand (attrs_at db key) keys ≡ true → are_short is_place keys ≡ true
  keys_short key keys h =
      let one = and_parts (list_all (λ k. nat_lt k (length (attrs_at db key))) keys) _ h in
      let two = and_parts (differ_by nat_eq keys) (nat_le (length keys) most_keys) one.1 in
      let few = few_attrs_at db d key in let most = leb-true (length keys) most_keys two.1 in
      short_is is_place keys (omega (arith, most)) (places_are (length (attrs_at db key)) keys (omega (arith, few)) one.0)

  row_qual_short : (key : RelKey) (q : QQual) → row_qual_fits db key q ≡ true → IsNamed key × (qual_is_short q ≡ true)
  row_qual_short key q h =
      let one = and_parts (can_be_ranged_over db key) _ h in
      let two = and_parts (valid_row_qual db key q) (row_qual_is_small q) one.1 in
      let few = few_kinds_at db d key in
      (ranged_named db d key one.0, plain_qual_short (kinds_at db key ∷ []) (few_one (kinds_at db key) (omega (arith, few))) q two.0)

  -- attributes that stand, each of a kind and of a name
  pub attrs_short : (attrs : List Attribute) → attrs_stand attrs ≡ true → are_short attr_is_short attrs ≡ true
  attrs_short attrs h =
      let all = stood attrs h in
      let few = leb-true (length attrs) most_attributes all.few in
      short_is attr_is_short attrs (omega (arith, few)) (both_each attrs (each_passes (λ a. is_name a.name) attrs all.named) (each_passes (λ a. is_kind a.kind) attrs all.kinds))
    where
      both_each : (attrs : List Attribute) → Each (λ (a : Attribute). is_name a.name ≡ true) attrs → Each (λ (a : Attribute). is_kind a.kind ≡ true) attrs → Each (λ (a : Attribute). attr_is_short a ≡ true) attrs
      both_each [] n k = tt
      both_each (a ∷ attrs) n k = (and (is_name a.name) (is_kind a.kind) n.0 k.0, both_each attrs n.1 k.1)

  columns_short : (key : RelKey) (columns : List CopyCol) → columns_fit db key columns ≡ true → are_short column_is_short columns ≡ true
  columns_short key columns h =
      let one = and_parts (is_any columns) _ h in
      let two = and_parts (list_all (λ (c : CopyCol). is_copy_form c.form) columns) _ one.1 in
      let three = and_parts (list_all (λ (c : CopyCol). nat_lt c.attr (length (attrs_at db key))) columns) _ two.1 in
      let four = and_parts (differ_by nat_eq (map (λ (c : CopyCol). c.attr) columns)) _ three.1 in
      let few = few_attrs_at db d key in
      let below = each_passes (λ (c : CopyCol). nat_lt c.attr (length (attrs_at db key))) columns three.0 in
      let most = at_most (length (attrs_at db key)) (map (λ (c : CopyCol). c.attr) columns) (mapped columns below) four.0 in
      let same = length-map columns (λ (c : CopyCol). c.attr) in
      short_is column_is_short columns (omega (arith, few, most, same)) (both_each columns below (each_passes (λ (c : CopyCol). is_copy_form c.form) columns two.0))
    where
      mapped : (columns : List CopyCol) → Each (λ (c : CopyCol). nat_lt c.attr (length (attrs_at db key)) ≡ true) columns → Each (λ k. k < length (attrs_at db key)) (map (λ (c : CopyCol). c.attr) columns)
      mapped [] h = tt
      mapped (c ∷ columns) h = (ltb-true c.attr (length (attrs_at db key)) h.0, mapped columns h.1)

      both_each : (columns : List CopyCol) → Each (λ (c : CopyCol). nat_lt c.attr (length (attrs_at db key)) ≡ true) columns → Each (λ (c : CopyCol). is_copy_form c.form ≡ true) columns → Each (λ (c : CopyCol). column_is_short c ≡ true) columns
      both_each [] n k = tt
      both_each (c ∷ columns) n k =
          let few = few_attrs_at db d key in let less = ltb-true c.attr (length (attrs_at db key)) n.0 in
          (and (is_place c.attr) (is_copy_form c.form) (place_is c.attr (omega (arith, few, less))) k.0, both_each columns n.1 k.1)

  view_short : (q : Query) → view_fits db q ≡ true → query_is_spelled q ≡ true → query_is_short q ≡ true
  unfolding view_fits
  view_short q h spelled =
      let one = and_parts (vars_are_there db q) _ h in
      let two = and_parts (valid_query db q) _ one.1 in
      let three = and_parts (attrs_stand (map target_attr (targets_of q))) _ two.1 in
      let four = and_parts (lists_few_vars q) _ three.1 in
      let vars = leb-true (length (vars_of q)) most_expanded_variables four.0 in
      let targets = leb-true (length (map target_attr (targets_of q))) most_attributes (stood (map target_attr (targets_of q)) three.0).few in
      let same = length-map (targets_of q) target_attr in
      let named = each_to (λ key. is_some (range_at db key) ≡ true) IsNamed (there_named db d) (vars_of q) (each_passes (λ key. is_some (range_at db key)) (vars_of q) one.0) in
      (plain_query_short db d q (omega (arith, vars)) named (omega (arith, targets, same)) two.0 spelled).0

  work_short : (user : List ℕ) (work : Utility) → utility_fits db user work ≡ true → utility_is_spelled work ≡ true → FewWork work → utility_is_short work ≡ true
  unfolding utility_fits utility_is_spelled
  work_short user (utility.Create rel attrs) fit spelled few =
      let one = and_parts (is_new db rel.owner rel.name) _ fit in let two = and_parts (attrs_stand attrs) _ one.1 in attrs_short attrs two.0
  work_short user (utility.Destroy rels) fit spelled few =
      let one = and_parts (list_all (is_entry db) rels) (differ_by same_key rels) fit in
      short_is key_is_spelled rels few (each_to (λ key. is_entry db key ≡ true) IsNamed entry_named rels (each_passes (is_entry db) rels one.0))
  work_short user (utility.Modify rel to keys) fit spelled few =
      let one = and_parts (can_be_ranged_over db rel) _ fit in let two = and_parts (is_structure to) (keys_stand (attrs_at db rel) keys) one.1 in
      and (key_is_spelled rel) (are_short is_place keys) (ranged_named db d rel one.0) (keys_short rel keys two.1)
  work_short user (utility.Index base name keys) fit spelled few =
      let one = and_parts (can_be_ranged_over db base) _ fit in
      let two = and_parts (is_new db user name) _ one.1 in let three = and_parts (is_any keys) (keys_stand (attrs_at db base) keys) two.1 in
      and (key_is_spelled base) (are_short is_place keys) (ranged_named db d base one.0) (keys_short base keys three.1)
  work_short user (utility.Copy rel columns from file) fit spelled few =
      let one = and_parts (can_be_ranged_over db rel) (columns_fit db rel columns) fit in
      and (key_is_spelled rel) (are_short column_is_short columns) (ranged_named db d rel one.0) (columns_short rel columns one.1)
  work_short user (utility.View rel query) fit spelled few =
      let one = and_parts (is_new db rel.owner rel.name) (view_fits db query) fit in
      view_short query one.1 (and_parts (key_is_spelled rel) (query_is_spelled query) spelled).1
  work_short user (utility.Permit rel permit) fit spelled few =
      let one = and_parts (row_qual_fits db rel permit.qual) (listed_attrs_fit db rel permit) fit in
      let two = row_qual_short rel permit.qual one.0 in
      let three = and_parts (permit_attrs_stand db rel permit.attrs) (nat_le (length permit.attrs) most_listed_attributes) one.1 in
      let most = leb-true (length permit.attrs) most_listed_attributes three.1 in
      let attrs = few_attrs_at db d rel in
      let places = places_are (length (attrs_at db rel)) permit.attrs (omega (arith, attrs)) three.0 in
      and (key_is_spelled rel) (permit_is_short permit) two.0
      (and (is_number permit.number) (are_short is_place permit.attrs && qual_is_short permit.qual) few
      (and (are_short is_place permit.attrs) (qual_is_short permit.qual) (short_is is_place permit.attrs (omega (arith, most)) places) two.1))
  work_short user (utility.Rule rel rule) fit spelled few =
      let two = row_qual_short rel rule.qual fit in
      and (key_is_spelled rel) (rule_is_short rule) two.0 (and (is_number rule.number) (qual_is_short rule.qual) few two.1)
  work_short user (utility.DropPermits rel numbers) fit spelled few = and (key_is_spelled rel) (are_short is_number numbers) (ranged_named db d rel fit) few
  work_short user (utility.DropRules rel numbers) fit spelled few = and (key_is_spelled rel) (are_short is_number numbers) (ranged_named db d rel fit) few

  -- ---- updates

  module _ (may : Allowed) (ranged : Ranged db may) where
    asked_short : (a : Asked) → asked_fits may db a ≡ true → query_is_spelled a.query ≡ true → FewAsked a → asked_is_short a ≡ true
    unfolding asked_fits query_fits
    asked_short a fit spelled few =
        let one = and_parts (reads_fit may db a.query) _ fit in
        let two = and_parts (query_fits db a.query) _ one.1 in
        let three = and_parts _ (sort_is_in_range a) two.1 in
        let kinds = and_parts _ (kinds_fit_in_query db (qual_of a.query) (var_kinds db a.query)) two.0 in
        let columns = few_targets_in may db a.query one.0 in
        let short = query_short db d may ranged a.query one.0 spelled few.query (targets_kinds db d may ranged a.query one.0 spelled few.query kinds.0) kinds.1 in
        and (query_is_short a.query) (are_short (λ (k : SortKey). is_count k.column) a.sort) short
        (short_is (λ (k : SortKey). is_count k.column) a.sort few.sort
        (each_to (λ (k : SortKey). nat_lt k.column (length (targets_of a.query)) ≡ true) (λ (k : SortKey). is_count k.column ≡ true)
        (λ k e. (let less = ltb-true k.column (length (targets_of a.query)) e in count_is k.column (omega (arith, less, columns)))) a.sort
        (each_passes (λ (k : SortKey). nat_lt k.column (length (targets_of a.query))) a.sort three.1)))

    -- the attributes of the new rows are few
    few_new : (u : Update) → length (targets_of u.query) ≤ 49 → length (new_attrs db u) ≤ 49
    few_new u few = go u.op
      where
        go : (o : UpdateOp) → length (elim o as (λ o. List Attribute) [ op.Append ↦ attrs_at db u.rel | op.Replace ↦ attrs_at db u.rel | op.Delete ↦ attrs_at db u.rel | op.Into ↦ map made_attr (targets_of u.query) ]) ≤ 49
        go op.Append = few_attrs_at db d u.rel
        go op.Replace = few_attrs_at db d u.rel
        go op.Delete = few_attrs_at db d u.rel
        go op.Into = let same = length-map (targets_of u.query) made_attr in omega (arith, few, same)

    -- what is changed or made has a key of names, and the variable of the old rows has a place
    abbrev relation_by : Update → UpdateOp → Bool
    relation_by u o = elim o [
      | op.Append ↦ is_relation db u.rel && nat_eq u.old 255
      | op.Replace ↦ is_relation db u.rel && is_this_key (slice_get (vars_of u.query) u.old) u.rel
      | op.Delete ↦ is_relation db u.rel && is_this_key (slice_get (vars_of u.query) u.old) u.rel
      | op.Into ↦ nat_eq u.old 255 && (is_new db u.rel.owner u.rel.name && (attrs_stand (new_attrs db u) && are_stored (new_attrs db u)))
    ]

    abbrev made_by : Update → UpdateOp → Bool
    made_by u o = elim o [ op.Append ↦ true | op.Replace ↦ true | op.Delete ↦ true | op.Into ↦ key_is_spelled u.rel ]

    this_there : (o : Option RelKey) (key : RelKey) → is_this_key o key ≡ true → There o
    this_there None key h = absurd (true≢false (sym h))
    this_there (Some k) key h = refl

    last_place : (n : ℕ) → nat_eq n 255 ≡ true → is_place n ≡ true
    last_place n h = let same = eqb-true n 255 h in place_is n (omega (arith, same))

    changed_place : (u : Update) → length (vars_of u.query) ≤ 50 → is_this_key (slice_get (vars_of u.query) u.old) u.rel ≡ true → is_place u.old ≡ true
    changed_place u few h = let less = get_there (vars_of u.query) u.old (this_there (slice_get (vars_of u.query) u.old) u.rel h) in place_is u.old (omega (arith, less, few))

    changed_short : (u : Update) → length (vars_of u.query) ≤ 50 → (o : UpdateOp) → relation_by u o ≡ true → made_by u o ≡ true → IsNamed u.rel × (is_place u.old ≡ true)
    changed_short u few op.Append h made = let two = and_parts (is_relation db u.rel) (nat_eq u.old 255) h in (relation_named u.rel two.0, last_place u.old two.1)
    changed_short u few op.Replace h made =
        let two = and_parts (is_relation db u.rel) (is_this_key (slice_get (vars_of u.query) u.old) u.rel) h in (relation_named u.rel two.0, changed_place u few two.1)
    changed_short u few op.Delete h made =
        let two = and_parts (is_relation db u.rel) (is_this_key (slice_get (vars_of u.query) u.old) u.rel) h in (relation_named u.rel two.0, changed_place u few two.1)
    changed_short u few op.Into h made = (made, last_place u.old (and_parts (nat_eq u.old 255) _ h).0)

    -- targets of kinds, whose terms have kinds
    both_kinds : (q : Query) (ts : List Target) → list_all (λ (t : Target). is_kind t.kind) ts ≡ true → list_all (λ (t : Target). comparable (kind_in_query db t.term (var_kinds db q)) (Some t.kind)) ts ≡ true
        → Each (λ (t : Target). IsKind t.kind × There (kind_in_query db t.term (var_kinds db q))) ts
    both_kinds q [] are match_ = tt
    both_kinds q (t ∷ ts) are match_ =
        let one = and_parts (is_kind t.kind) (list_all (λ (t : Target). is_kind t.kind) ts) are in
        let two = and_parts (comparable (kind_in_query db t.term (var_kinds db q)) (Some t.kind)) (list_all (λ (t : Target). comparable (kind_in_query db t.term (var_kinds db q)) (Some t.kind)) ts) match_ in
        ((one.0, (comparable_there (kind_in_query db t.term (var_kinds db q)) (Some t.kind) two.0).0), both_kinds q ts one.1 two.1)

    update_short : (u : Update) → update_fits may db u ≡ true → update_is_spelled u ≡ true → FewIn u.query → length u.checks ≤ 65535 → update_is_short u ≡ true
    unfolding update_fits update_is_spelled
    update_short u fit spelled few checks =
        let one = and_parts (reads_fit may db u.query) _ fit in
        let two = and_parts (update_kinds_fit db u.query) _ one.1 in
        let three = and_parts (assignments_fit db u) _ two.1 in
        let four = and_parts (nat_le (update_expanded_variables db u) most_expanded_variables) _ three.1 in
        let five = and_parts (places_fit db u) _ four.1 in
        let sixth = and_parts (checks_fit db u) (relation_fits db u) five.1 in
        let made = and_parts (made_key_is_spelled u) _ spelled in
        let query = and_parts (query_is_spelled u.query) _ made.1 in
        let vars = few_vars_in may db u.query one.0 in
        let targets = few_targets_in may db u.query one.0 in
        let new = few_new u targets in
        let kinds = and_parts (list_all (λ (t : Target). is_kind t.kind) (targets_of u.query)) _ two.0 in
        let match_ = and_parts (list_all (λ (t : Target). comparable (kind_in_query db t.term (var_kinds db u.query)) (Some t.kind)) (targets_of u.query)) _ kinds.1 in
        let short = query_short db d may ranged u.query one.0 query.0 few (both_kinds u.query (targets_of u.query) kinds.0 match_.0) match_.1 in
        let places = and_parts (list_all (λ p. nat_lt p (length (new_attrs db u))) u.places) _ five.0 in
        let number = and_parts (differ_by nat_eq u.places) (nat_eq (length u.places) (length (targets_of u.query))) places.1 in
        let as_many = eqb-true (length u.places) (length (targets_of u.query)) number.1 in
        let key = changed_short u vars u.op sixth.1 made.0 in
        let same = length-map (new_attrs db u) (λ (a : Attribute). a.kind) in
        let row = few_one (map (λ (a : Attribute). a.kind) (new_attrs db u)) (omega (arith, new, same)) in
        let each = each_passes (λ check. kinds_fit check (map (λ (a : Attribute). a.kind) (new_attrs db u) ∷ [])) (u.new_cut ∷ u.checks) sixth.0 in
        let quals = each_to (λ check. kinds_fit check (map (λ (a : Attribute). a.kind) (new_attrs db u) ∷ []) ≡ true) (λ check. qual_is_short check ≡ true) (plain_qual_short (map (λ (a : Attribute). a.kind) (new_attrs db u) ∷ []) row) (u.new_cut ∷ u.checks) each in
        six (key_is_spelled u.rel) (is_place u.old) (are_short is_place u.places) (query_is_short u.query) (are_short qual_is_short u.checks) (qual_is_short u.new_cut)
        key.0 key.1 (short_is is_place u.places (omega (arith, as_many, targets)) (places_are (length (new_attrs db u)) u.places (omega (arith, new)) places.0)) short (short_is qual_is_short u.checks checks quals.1) quals.0

    all_asked : (asked : List Asked) → list_all (asked_fits may db) asked ≡ true → list_all (λ a. query_is_spelled a.query) asked ≡ true → Each FewAsked asked → Each (λ (a : Asked). asked_is_short a ≡ true) asked
    all_asked [] fit spelled few = tt
    all_asked (a ∷ asked) fit spelled few =
        let one = and_parts (asked_fits may db a) (list_all (asked_fits may db) asked) fit in
        let two = and_parts (query_is_spelled a.query) (list_all (λ a. query_is_spelled a.query) asked) spelled in
        (asked_short a one.0 two.0 few.0, all_asked asked one.1 two.1 few.1)

    -- a tree that suits the database, has constants that are ones, and of which nothing is too much that nothing else bounds
    pub tree_short : (user : List ℕ) (tree : Checked) → suits may db user tree ≡ true → tree_is_spelled tree ≡ true → FewTree 65535 tree → tree_is_short tree ≡ true
    unfolding suits tree_is_spelled tree_is_short
    tree_short user (checked.Answer asked) fit spelled few = short_is asked_is_short asked few.0 (all_asked asked fit spelled few.1)
    tree_short user (checked.Update u) fit spelled few = update_short u fit spelled few.0 few.1
    tree_short user (checked.Utility work) fit spelled few = work_short user work fit spelled few
