-- What is found in a database has attributes as one has.
use Rattle.std.proofs.Common.{◌≡◌, refl, subst, nat_le, Bool, true, false, ◌&&◌, ◌||◌, cond, List, [], ◌∷◌, map, length, Option, Some, None, is_some}
use Rattle.std.specs.List.{find, list_all, flat_map}
use Rattle.std.specs.Option.{option_map}
use Rattle.calculus.specs.declared.query.RelKey.{RelKey}
use Rattle.calculus.specs.declared.schema.RelInfo.{RelInfo}
use Rattle.calculus.specs.Keys.{same_key}
use Rattle.calculus.specs.Name.{is_name}
use Rattle.calculus.specs.Rows.{set_of}
use Rattle.calculus.specs.Database.{Db, Relation, View, relation_at, view_at, is_relation}
use Rattle.calculus.specs.Catalogue.{catalogue_at, is_catalogue, relation_key, attribute_key, relation_info, attribute_info, relation_attrs, attribute_attrs, relation_row, attribute_rows, all_entries}
use Rattle.calculus.specs.Stored.{Range, Kept, Viewed, range_at, range_info, info_at}
use Rattle.calculus.specs.IsDatabase.{IsDatabase, attrs_stand, is_kind}
use Rattle.calculus.specs.declared.schema.Attr.{Attr}
use Rattle.calculus.specs.Limits.{most_attributes}
use Rattle.calculus.specs.Lists.{is_any, differ_by}
use Rattle.std.specs.Str.{bytes_eq}
use Rattle.quel_meaning.proofs.Each.{left, right}

-- what is found passes what all pass
pub found_passes : {X : Type 0} (p test : X → Bool) (xs : List X) (x : X) → list_all test xs ≡ true → find p xs ≡ Some x → test x ≡ true
found_passes p test [] x h k = absurd (cc k)
found_passes p test (y ∷ ys) x h k = go (found_passes p test ys x) (p y) (test y) refl h k
  where
    go : (list_all test ys ≡ true → find p ys ≡ Some x → test x ≡ true) → (b c : Bool) → test y ≡ c → (c && list_all test ys) ≡ true
        → cond b (Some y) (find p ys) ≡ Some x → test x ≡ true
    go later b false e h k = absurd (cc h)
    go later true true e h k = let same : y ≡ x = cc k in subst (λ z. test z ≡ true) same e
    go later false true e h k = later h k

relation_attrs_stand : attrs_stand relation_attrs ≡ true
unfolding is_name
relation_attrs_stand = refl

attribute_attrs_stand : attrs_stand attribute_attrs ≡ true
unfolding is_name
attribute_attrs_stand = refl

catalogue_passes : (test : RelInfo → Bool) (db : Db) → test (relation_info db) ≡ true → test (attribute_info db) ≡ true
    → (key : RelKey) (r : Relation) → catalogue_at db key ≡ Some r → test r.info ≡ true
unfolding catalogue_at
catalogue_passes test db c d key r h = first (same_key key (relation_key db)) h
  where
    second : (b : Bool)
        → ◌≡◌ {A = Option Relation} (elim b [ true ↦ Some (record { info = attribute_info db; rows = set_of (flat_map attribute_rows (all_entries db)) }) | false ↦ None ]) (Some r)
        → test r.info ≡ true
    second true k =
        let same : record { info = attribute_info db; rows = set_of (flat_map attribute_rows (all_entries db)) } ≡ r = cc k in
        subst (λ (x : Relation). test x.info ≡ true) same d
    second false k = absurd (cc k)

    first : (b : Bool)
        → ◌≡◌ {A = Option Relation} (elim b [
          | true ↦ Some (record { info = relation_info db; rows = set_of (map relation_row (all_entries db)) })
          | false ↦ elim (same_key key (attribute_key db)) [ true ↦ Some (record { info = attribute_info db; rows = set_of (flat_map attribute_rows (all_entries db)) }) | false ↦ None ]
        ]) (Some r) → test r.info ≡ true
    first true k =
        let same : record { info = relation_info db; rows = set_of (map relation_row (all_entries db)) } ≡ r = cc k in
        subst (λ (x : Relation). test x.info ≡ true) same c
    first false k = second (same_key key (attribute_key db)) k

-- what each relation, each view and the catalogues pass
pub record AllPass (test : RelInfo → Bool) (db : Db) : Type 0 where
  pub relations : list_all (λ (r : Relation). test r.info) db.relations ≡ true
  pub views : list_all (λ (v : View). test v.info) db.views ≡ true
  pub names : test (relation_info db) ≡ true
  pub attributes : test (attribute_info db) ≡ true

range_passes : (test : RelInfo → Bool) (db : Db) → AllPass test db → (key : RelKey) (r : Range) → range_at db key ≡ Some r → test (range_info r) ≡ true
unfolding range_at
range_passes test db all key r h = at_relation (relation_at db key) refl h
  where
    at_catalogue : (c : Option Relation) → catalogue_at db key ≡ c → option_map Kept c ≡ Some r → test (range_info r) ≡ true
    at_catalogue None e k = absurd (cc k)
    at_catalogue (Some relation) e k =
        let same : Kept relation ≡ r = cc k in subst (λ x. test (range_info x) ≡ true) same (catalogue_passes test db all.names all.attributes key relation e)

    at_view : (v : Option View) → view_at db key ≡ v → ◌≡◌ {A = Option Range} (elim v [ Some view ↦ Some (Viewed view) | None ↦ option_map Kept (catalogue_at db key) ]) (Some r)
        → test (range_info r) ≡ true
    at_view None e k = at_catalogue (catalogue_at db key) refl k
    at_view (Some view) e k =
        let same : Viewed view ≡ r = cc k in
        subst (λ x. test (range_info x) ≡ true) same
        (found_passes (λ (v : View). same_key v.info.key key) (λ (v : View). test v.info) db.views view all.views e)

    at_relation : (o : Option Relation) → relation_at db key ≡ o
        → ◌≡◌ {A = Option Range} (elim o [
          | Some relation ↦ Some (Kept relation)
          | None ↦ elim (view_at db key) [ Some view ↦ Some (Viewed view) | None ↦ option_map Kept (catalogue_at db key) ]
        ]) (Some r) → test (range_info r) ≡ true
    at_relation None e k = at_view (view_at db key) refl k
    at_relation (Some relation) e k =
        let same : Kept relation ≡ r = cc k in
        subst (λ x. test (range_info x) ≡ true) same
        (found_passes (λ (r : Relation). same_key r.info.key key) (λ (r : Relation). test r.info) db.relations relation all.relations e)

-- what is found in a database passes what all there pass
pub info_passes : (test : RelInfo → Bool) (db : Db) → AllPass test db → (key : RelKey) (info : RelInfo) → info_at db key ≡ Some info → test info ≡ true
unfolding info_at
info_passes test db all key info h = go (range_at db key) refl h
  where
    go : (o : Option Range) → range_at db key ≡ o → option_map range_info o ≡ Some info → test info ≡ true
    go None e k = absurd (cc k)
    go (Some r) e k = let same : range_info r ≡ info = cc k in subst (λ (i : RelInfo). test i ≡ true) same (range_passes test db all key r e)

-- what is found in a database has attributes as a relation or a view has
pub info_stands : (db : Db) → IsDatabase db → (key : RelKey) (info : RelInfo) → info_at db key ≡ Some info → attrs_stand info.attrs ≡ true
info_stands db is = info_passes (λ (i : RelInfo). attrs_stand i.attrs) db (record {
  relations = is.relation_attrs_stand;
  views = is.view_attrs_stand;
  names = relation_attrs_stand;
  attributes = attribute_attrs_stand;
})

-- ---- base relations

no_catalogue : (db : Db) (key : RelKey) → is_catalogue db key ≡ false → catalogue_at db key ≡ None
unfolding catalogue_at
no_catalogue db key h = go (same_key key (relation_key db)) (same_key key (attribute_key db)) h
  where
    go : (a b : Bool) → (a || b) ≡ false
        → ◌≡◌ {A = Option Relation} (elim a [
          | true ↦ Some (record { info = relation_info db; rows = set_of (map relation_row (all_entries db)) })
          | false ↦ elim b [ true ↦ Some (record { info = attribute_info db; rows = set_of (flat_map attribute_rows (all_entries db)) }) | false ↦ None ]
        ]) None
    go true b h = absurd (cc h)
    go false true h = absurd (cc h)
    go false false h = refl

-- what is found and is neither a catalogue nor a view is a base relation
pub found_relation : (db : Db) (key : RelKey) (info : RelInfo) → info_at db key ≡ Some info → is_catalogue db key ≡ false → is_some (view_at db key) ≡ false
    → is_relation db key ≡ true
unfolding info_at range_at
found_relation db key info h c v = at_relation (relation_at db key) h
  where
    at_catalogue : (o : Option Relation) → o ≡ None → option_map range_info (option_map Kept o) ≡ Some info → false ≡ true
    at_catalogue None e k = absurd (cc k)
    at_catalogue (Some r) e k = absurd (cc e)

    at_view : (o : Option View) → is_some o ≡ false
        → option_map range_info (elim o [ Some view ↦ Some (Viewed view) | None ↦ option_map Kept (catalogue_at db key) ]) ≡ Some info → false ≡ true
    at_view (Some view) e k = absurd (cc e)
    at_view None e k = at_catalogue (catalogue_at db key) (no_catalogue db key c) k

    at_relation : (o : Option Relation)
        → option_map range_info (elim o [
          | Some relation ↦ Some (Kept relation)
          | None ↦ elim (view_at db key) [ Some view ↦ Some (Viewed view) | None ↦ option_map Kept (catalogue_at db key) ]
        ]) ≡ Some info → is_some o ≡ true
    at_relation (Some r) k = refl
    at_relation None k = at_view (view_at db key) v k

-- ---- what attributes have that stand

pub record HaveStood (attrs : List Attr) : Type 0 where
  pub any : is_any attrs ≡ true
  pub few : nat_le (length attrs) most_attributes ≡ true
  pub named : list_all (λ (a : Attr). is_name a.name) attrs ≡ true
  pub differ : differ_by bytes_eq (map (λ (a : Attr). a.name) attrs) ≡ true
  pub kinds : list_all (λ (a : Attr). is_kind a.kind) attrs ≡ true

pub stood : (attrs : List Attr) → attrs_stand attrs ≡ true → HaveStood attrs
stood attrs h =
    let h1 = right (is_any attrs) _ h in
    let h2 = right (nat_le (length attrs) most_attributes) _ h1 in
    let h3 = right (list_all (λ (a : Attr). is_name a.name) attrs) _ h2 in
    let h4 = right (differ_by bytes_eq (map (λ (a : Attr). a.name) attrs)) _ h3 in
    record { any = left _ _ h; few = left _ _ h1; named = left _ _ h2; differ = left _ _ h3; kinds = left _ _ h4 }
