-- What is there in a database has a key of names, and few attributes, whose kinds are ones.
use Rattle.std.proofs.Common.{◌≡◌, refl, subst, ◌≤◌, true, ◌++◌, map, length, Option, Some, None, option_map, arith}
use Rattle.std.specs.Prelude.{codes, is_some}
use Rattle.std.proofs.lemmas.Bool.{and_parts, leb-true}
use Rattle.std.proofs.lemmas.List.{length-map}
use Rattle.calculus.specs.declared.query.RelKey.{RelKey}
use Rattle.calculus.specs.declared.schema.Attr.{Attr}
use Rattle.calculus.specs.declared.schema.RelInfo.{RelInfo}
use Rattle.calculus.specs.Database.{Db, Relation, Index, View, entries, entry_at, is_there}
use Rattle.calculus.specs.IsDatabase.{IsDatabase, key_is_named}
use Rattle.calculus.specs.Limits.{most_attributes}
use Rattle.calculus.specs.Name.{is_name}
use Rattle.calculus.specs.Stored.{Range, range_at, range_info, info_at, attrs_in, attrs_at, kinds_at}
use Rattle.quel_meaning.specs.FitQueries.{can_be_ranged_over}
use Rattle.quel_meaning.specs.SpelledTree.{key_is_spelled}
use Rattle.calculus.specs.Keys.{same_key}
use Rattle.quel_meaning.proofs.DatabaseFacts.{AllPass, found_passes, info_passes, info_stands, stood}
use Rattle.quel_meaning.proofs.Each.{Each, front_of, back_of, of_map, each_to, each_passes, passed, and}
use Rattle.quel_meaning.proofs.Keys.{find_passes, same_keys, info_key_is}
use Rattle.spelling_laws.proofs.Numbers.{there_is}

-- the key has a name of an owner and one of its own
abbrev pub IsNamed : RelKey → Type 0
IsNamed key = key_is_spelled key ≡ true

pub named_key : (key : RelKey) → key_is_named key ≡ true → IsNamed key
named_key key h =
    let one = and_parts (is_name key.owner) _ h in
    let two = and_parts (is_name key.name) _ one.1 in
    and (is_name key.owner) (is_name key.name) one.0 two.0

module _ (db : Db) (d : IsDatabase db) where
  infos_named : Each (λ (i : RelInfo). IsNamed i.key) (entries db)
  infos_named = each_to (λ (i : RelInfo). key_is_named i.key ≡ true) (λ (i : RelInfo). IsNamed i.key) (λ i h. named_key i.key h) (entries db) (each_passes (λ (i : RelInfo). key_is_named i.key) (entries db) d.keys_are_named)

  of_relations : Each (λ (r : Relation). IsNamed r.info.key) db.relations
  of_relations = of_map (λ (i : RelInfo). IsNamed i.key) (λ (r : Relation). r.info) db.relations (front_of (λ (i : RelInfo). IsNamed i.key) (map (λ (r : Relation). r.info) db.relations) _ infos_named)

  of_others : Each (λ (i : RelInfo). IsNamed i.key) (map (λ (v : View). v.info) db.views ++ map (λ (x : Index). x.info) db.indexes)
  of_others = back_of (λ (i : RelInfo). IsNamed i.key) (map (λ (r : Relation). r.info) db.relations) _ infos_named

  of_views : Each (λ (v : View). IsNamed v.info.key) db.views
  of_views = of_map (λ (i : RelInfo). IsNamed i.key) (λ (v : View). v.info) db.views (front_of (λ (i : RelInfo). IsNamed i.key) (map (λ (v : View). v.info) db.views) _ of_others)

  all_named : AllPass (λ (i : RelInfo). key_is_spelled i.key) db
  unfolding is_name
  all_named = record {
    relations = passed (λ (r : Relation). key_is_spelled r.info.key) db.relations of_relations;
    views = passed (λ (v : View). key_is_spelled v.info.key) db.views of_views;
    names = and (is_name db.dba) (is_name (codes "relation")) d.dba_is_named refl;
    attributes = and (is_name db.dba) (is_name (codes "attribute")) d.dba_is_named refl;
  }

  -- what can be ranged over has a key of names
  pub ranged_named : (key : RelKey) → can_be_ranged_over db key ≡ true → IsNamed key
  ranged_named key h =
      let one = there_is (info_at db key) h in
      subst IsNamed (info_key_is db key one.0 one.1) (info_passes (λ (i : RelInfo). key_is_spelled i.key) db all_named key one.0 one.1)

  some_info : (key : RelKey) → is_some (range_at db key) ≡ true → can_be_ranged_over db key ≡ true
  unfolding info_at
  some_info key h = go (range_at db key) h
    where
      go : (o : Option Range) → is_some o ≡ true → is_some (option_map range_info o) ≡ true
      go None h = h
      go (Some r) h = refl

  pub there_named : (key : RelKey) → is_some (range_at db key) ≡ true → IsNamed key
  there_named key h = ranged_named key (some_info key h)

  -- so has each relation, view and index
  pub entries_named : (key : RelKey) → is_there db key ≡ true → IsNamed key
  entries_named key h =
      let one = there_is (entry_at db key) h in
      let same = same_keys one.0.key key (find_passes (λ (i : RelInfo). same_key i.key key) (entries db) one.0 one.1) in
      subst IsNamed same (found_passes (λ (i : RelInfo). same_key i.key key) (λ (i : RelInfo). key_is_spelled i.key) (entries db) one.0 (passed (λ (i : RelInfo). key_is_spelled i.key) (entries db) infos_named) one.1)

  -- few attributes
  pub few_attrs_at : (key : RelKey) → length (attrs_at db key) ≤ 49
  few_attrs_at key = go (info_at db key) refl
    where
      go : (o : Option RelInfo) → info_at db key ≡ o → length (attrs_in o) ≤ 49
      go None e = omega arith
      go (Some info) e = leb-true (length info.attrs) most_attributes (stood info.attrs (info_stands db d key info e)).few

  pub few_kinds_at : (key : RelKey) → length (kinds_at db key) ≤ 49
  few_kinds_at key = let few = few_attrs_at key in let same = length-map (attrs_at db key) (λ (a : Attr). a.kind) in omega (arith, few, same)
