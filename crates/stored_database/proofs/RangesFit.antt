-- What variables of stored trees range over: it has a name, and few attributes.
use Rattle.std.proofs.Common.{◌≡◌, refl, sym, subst, ◌∙◌, true≢false, ◌≤◌, ◌&&◌, not, Bool, true, false, List, map, length, Option, Some, None, option_map, arith}
use Rattle.std.specs.Prelude.{is_some, slice_get, nat_le}
use Rattle.std.proofs.lemmas.Bool.{and_parts, leb-true}
use Rattle.std.proofs.lemmas.List.{length-map}
use Rattle.std.proofs.lemmas.Option.{slice_get-map, same_Some}
use Rattle.std.specs.List.{AllByRecursion, flat_map}
use Rattle.calculus.specs.declared.query.RelKey.{RelKey}
use Rattle.calculus.specs.declared.schema.Attr.{Attr}
use Rattle.calculus.specs.declared.schema.RelInfo.{RelInfo}
use Rattle.calculus.specs.declared.value.Kind.{Kind}
use Rattle.calculus.specs.Catalogue.{relation_key, attribute_key, relation_info, attribute_info, relation_row, attribute_rows, all_entries, catalogue_at, is_catalogue_name}
use Rattle.calculus.specs.Rows.{set_of}
use Rattle.calculus.specs.Database.{Db, Relation, Index, View, entries, relation_at, view_at}
use Rattle.calculus.specs.IsDatabase.{IsDatabase, attrs_stand, key_is_named}
use Rattle.calculus.specs.Keys.{same_key}
use Rattle.calculus.specs.Lists.{is_any}
use Rattle.calculus.specs.Limits.{most_attributes}
use Rattle.calculus.specs.Name.{is_name}
use Rattle.calculus.specs.Stored.{Range, Kept, Viewed, range_at, range_info, info_at, attrs_in, attrs_at, kinds_at}
use Rattle.stored_database.proofs.Members.{of_all, found_in}
use Rattle.stored_database.proofs.Orders.{same_key_is}
use Rattle.stored_database.proofs.Pairs.{all_front, all_behind, all_unmap, pass_all}
use Rattle.stored_database.proofs.TermsFit.{Few}

-- The key has a name of an owner and one of its own.
pub record IsNamed (key : RelKey) : Type 0 where
  pub owner : is_name key.owner ≡ true
  pub name : is_name key.name ≡ true

-- it has, and there are few attributes
record Stands (key : RelKey) (attrs : List Attr) : Type 0 where
  named : IsNamed key
  few : length attrs ≤ 49

few_attrs : (attrs : List Attr) → attrs_stand attrs ≡ true → length attrs ≤ 49
few_attrs attrs e = leb-true (length attrs) 49 (and_parts (nat_le (length attrs) most_attributes) _ (and_parts (is_any attrs) _ e).1).0

named_key : (key : RelKey) → key_is_named key ≡ true → IsNamed key
named_key key e = let one = and_parts (is_name key.owner) (is_name key.name && not (is_catalogue_name key.name)) e in record { owner = one.0; name = (and_parts (is_name key.name) (not (is_catalogue_name key.name)) one.1).0 }

-- the two catalogues
abbrev first_catalogue : Db → Relation
first_catalogue db = record { info = relation_info db; rows = set_of (map relation_row (all_entries db)) }

abbrev second_catalogue : Db → Relation
second_catalogue db = record { info = attribute_info db; rows = set_of (flat_map attribute_rows (all_entries db)) }

module _ (db : Db) (d : IsDatabase db) where
  infos_named : AllByRecursion (λ (i : RelInfo). key_is_named i.key ≡ true) (entries db)
  infos_named = pass_all (λ (i : RelInfo). key_is_named i.key) (entries db) d.keys_are_named

  relations_named : AllByRecursion (λ (r : Relation). key_is_named r.info.key ≡ true) db.relations
  relations_named = all_unmap (λ (i : RelInfo). key_is_named i.key ≡ true) (λ (r : Relation). r.info) db.relations (all_front (λ (i : RelInfo). key_is_named i.key ≡ true) (map (λ (r : Relation). r.info) db.relations) _ infos_named)

  views_named : AllByRecursion (λ (v : View). key_is_named v.info.key ≡ true) db.views
  views_named =
      all_unmap (λ (i : RelInfo). key_is_named i.key ≡ true) (λ (v : View). v.info) db.views
      (all_front (λ (i : RelInfo). key_is_named i.key ≡ true) (map (λ (v : View). v.info) db.views) (map (λ (x : Index). x.info) db.indexes)
      (all_behind (λ (i : RelInfo). key_is_named i.key ≡ true) (map (λ (r : Relation). r.info) db.relations) _ infos_named))

  of_relation : (key : RelKey) (r : Relation) → relation_at db key ≡ Some r → Stands key r.info.attrs
  of_relation key r e =
      let at = found_in (λ (r : Relation). same_key r.info.key key) db.relations r e in record {
        named = subst IsNamed (same_key_is r.info.key key at.1) (named_key r.info.key (of_all (λ (r : Relation). key_is_named r.info.key ≡ true) db.relations r relations_named at.0));
        few = few_attrs r.info.attrs (of_all (λ (r : Relation). attrs_stand r.info.attrs ≡ true) db.relations r (pass_all (λ (r : Relation). attrs_stand r.info.attrs) db.relations d.relation_attrs_stand) at.0);
      }

  of_view : (key : RelKey) (v : View) → view_at db key ≡ Some v → Stands key v.info.attrs
  of_view key v e =
      let at = found_in (λ (v : View). same_key v.info.key key) db.views v e in record {
        named = subst IsNamed (same_key_is v.info.key key at.1) (named_key v.info.key (of_all (λ (v : View). key_is_named v.info.key ≡ true) db.views v views_named at.0));
        few = few_attrs v.info.attrs (of_all (λ (v : View). attrs_stand v.info.attrs ≡ true) db.views v (pass_all (λ (v : View). attrs_stand v.info.attrs) db.views d.view_attrs_stand) at.0);
      }

  of_catalogue : (key : RelKey) (r : Relation) → catalogue_at db key ≡ Some r → Stands key r.info.attrs
  unfolding catalogue_at is_name
  of_catalogue key r e = go (same_key key (relation_key db)) refl (same_key key (attribute_key db)) refl e
    where
      go : (b : Bool) → same_key key (relation_key db) ≡ b → (c : Bool) → same_key key (attribute_key db) ≡ c
          → (elim b as (λ b. Option Relation) [ true ↦ Some (first_catalogue db) | false ↦ elim c as (λ c. Option Relation) [ true ↦ Some (second_catalogue db) | false ↦ None ] ]) ≡ Some r → Stands key r.info.attrs
      go true is c that e = record {
        named = subst IsNamed (sym (same_key_is key (relation_key db) is)) (record { owner = d.dba_is_named; name = refl });
        few = subst (λ (r : Relation). length r.info.attrs ≤ 49) (same_Some (first_catalogue db) r e) (omega arith);
      }
      go false is true that e = record {
        named = subst IsNamed (sym (same_key_is key (attribute_key db) that)) (record { owner = d.dba_is_named; name = refl });
        few = subst (λ (r : Relation). length r.info.attrs ≤ 49) (same_Some (second_catalogue db) r e) (omega arith);
      }
      go false is false that e = cc e

  of_range : (key : RelKey) (range : Range) → range_at db key ≡ Some range → Stands key (range_info range).attrs
  unfolding range_at
  of_range key range e = go (relation_at db key) refl (view_at db key) refl (catalogue_at db key) refl e
    where
      go : (o : Option Relation) → relation_at db key ≡ o → (p : Option View) → view_at db key ≡ p → (q : Option Relation) → catalogue_at db key ≡ q
          → (elim o as (λ o. Option Range) [ Some relation ↦ Some (Kept relation) | None ↦ elim p as (λ p. Option Range) [ Some view ↦ Some (Viewed view) | None ↦ option_map Kept q ] ]) ≡ Some range → Stands key (range_info range).attrs
      go (Some r) is p that q last e = subst (λ range. Stands key (range_info range).attrs) (same_Some (Kept r) range e) (of_relation key r is)
      go None is (Some v) that q last e = subst (λ range. Stands key (range_info range).attrs) (same_Some (Viewed v) range e) (of_view key v that)
      go None is None that (Some r) last e = subst (λ range. Stands key (range_info range).attrs) (same_Some (Kept r) range e) (of_catalogue key r last)
      go None is None that None last e = cc e

  -- what is there has a name
  pub there_is_named : (key : RelKey) → is_some (range_at db key) ≡ true → IsNamed key
  there_is_named key e = go (range_at db key) refl e
    where
      go : (o : Option Range) → range_at db key ≡ o → is_some o ≡ true → IsNamed key
      go None is e = absurd (true≢false (sym e))
      go (Some range) is e = (of_range key range is).named

  -- and few attributes
  pub few_attrs_at : (key : RelKey) → length (attrs_at db key) ≤ 49
  unfolding info_at
  few_attrs_at key = go (range_at db key) refl
    where
      go : (o : Option Range) → range_at db key ≡ o → length (attrs_in (option_map range_info o)) ≤ 49
      go None is = omega arith
      go (Some range) is = (of_range key range is).few

  -- so it is with each of a list of variables
  pub few_kinds : (keys : List RelKey) → length keys ≤ 256 → Few (map (kinds_at db) keys)
  few_kinds keys h = record {
    few = omega (arith, h, length-map keys (kinds_at db));
    each = λ k kinds e. go (slice_get keys k) kinds (sym (slice_get-map (kinds_at db) keys k) ∙ e);
  }
    where
      go : (o : Option RelKey) (kinds : List Kind) → option_map (kinds_at db) o ≡ Some kinds → length kinds ≤ 256
      go None kinds e = cc e
      go (Some key) kinds e = let few = few_attrs_at key in let same = length-map (attrs_at db key) (λ (a : Attr). a.kind) in
          subst (λ (kinds : List Kind). length kinds ≤ 256) (same_Some (kinds_at db key) kinds e) (omega (arith, few, same))
