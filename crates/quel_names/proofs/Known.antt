-- What is known of a key, and what may be ranged over under it.
use Rattle.std.proofs.Common.{◌≡◌, refl, sym, ap, ◌∙◌, Bool, true, false, ◌&&◌, not, cond, List, [], ◌∷◌, ◌++◌, map, Option, Some, None}
use Rattle.std.specs.List.{find, list_all, flat_map}
use Rattle.std.specs.Option.{option_map, option_or}
use Rattle.std.proofs.lemmas.List.Folds.{find-append}
use Rattle.base_trait.specs.Known.{known_at}
use Rattle.calculus.specs.declared.query.RelKey.{RelKey}
use Rattle.calculus.specs.declared.schema.RelInfo.{RelInfo}
use Rattle.calculus.specs.declared.schema.Spec.{Spec}
use Rattle.calculus.specs.declared.schema.Spec.TheVariants as spec
use Rattle.calculus.specs.Catalogue.{catalogue_at, is_catalogue_name, relation_key, attribute_key, relation_info, attribute_info, relation_row, attribute_rows, all_entries}
use Rattle.calculus.specs.Database.{Db, Relation, View, Index, entries, entry_at, relation_at, view_at, index_at}
use Rattle.calculus.specs.IsDatabase.{IsDatabase, key_is_named, keys_stand, valid_structure, valid_view_info, valid_index}
use Rattle.calculus.specs.Keys.{same_key}
use Rattle.calculus.specs.Lists.{is_any}
use Rattle.calculus.specs.Name.{is_name}
use Rattle.calculus.specs.Rows.{set_of}
use Rattle.calculus.specs.Stored.{Kept, Viewed, range_at, range_info, info_at}
use Rattle.calculus.specs.Structures.{is_structure, is_keyed, is_view, is_index}
use Rattle.quel_meaning.proofs.DatabaseFacts.{found_passes}
use Rattle.quel_meaning.proofs.Each.{left, right, passed, each_passes, of_map, back_of}
use Rattle.quel_meaning.proofs.Keys.{find_passes, same_keys}
use Rattle.quel_names.specs.Ranging.{but_index}

-- ---- what is found among relations, views and indexes

find_in_map : {X Y : Type 0} (p : Y → Bool) (f : X → Y) (xs : List X) → find p (map f xs) ≡ option_map f (find (λ x. p (f x)) xs)
find_in_map p f [] = refl
find_in_map p f (x ∷ xs) = go (find_in_map p f xs) (p (f x))
  where
    go : find p (map f xs) ≡ option_map f (find (λ y. p (f y)) xs) → (b : Bool)
        → cond b (Some (f x)) (find p (map f xs)) ≡ option_map f (cond b (Some x) (find (λ y. p (f y)) xs))
    go later true = refl
    go later false = later

pub entry_parts : (db : Db) (key : RelKey)
    → entry_at db key ≡ option_or (option_map (λ (r : Relation). r.info) (relation_at db key)) (option_or (option_map (λ (v : View). v.info) (view_at db key)) (option_map (λ (x : Index). x.info) (index_at db key)))
entry_parts db key =
    find-append of_key (map (λ (r : Relation). r.info) db.relations) (map (λ (v : View). v.info) db.views ++ map (λ (x : Index). x.info) db.indexes)
    ∙ (λ i. option_or (find_in_map of_key (λ (r : Relation). r.info) db.relations i) (find-append of_key (map (λ (v : View). v.info) db.views) (map (λ (x : Index). x.info) db.indexes) i))
    ∙ (λ i. option_or (option_map (λ (r : Relation). r.info) (relation_at db key)) (option_or (find_in_map of_key (λ (v : View). v.info) db.views i) (find_in_map of_key (λ (x : Index). x.info) db.indexes i)))
  where
    of_key : RelInfo → Bool
    of_key i = same_key i.key key

-- ---- what is an index

no_structure : (info : RelInfo) → valid_structure info ≡ true → is_index info.spec ≡ false
no_structure info h = go info.spec h
  where
    go : (s : Spec)
        → ◌≡◌ {A = Bool} (elim (is_keyed s) [ true ↦ is_any info.keys && keys_stand info.attrs info.keys | false ↦ is_structure s && not (is_any info.keys) ]) true
        → is_index s ≡ false
    go spec.Heap k = refl
    go spec.Hash k = refl
    go spec.Isam k = refl
    go spec.View k = refl
    go spec.Index k = absurd (cc k)

no_view : (info : RelInfo) → valid_view_info info ≡ true → is_index info.spec ≡ false
no_view info h = go info.spec (left (is_view info.spec) _ h)
  where
    go : (s : Spec) → is_view s ≡ true → is_index s ≡ false
    go spec.Heap k = refl
    go spec.Hash k = refl
    go spec.Isam k = refl
    go spec.View k = refl
    go spec.Index k = absurd (cc k)

an_index : (db : Db) (x : Index) → valid_index db x ≡ true → is_index x.info.spec ≡ true
an_index db x h = left (is_index x.info.spec) _ h

kept_if : (info : RelInfo) → is_index info.spec ≡ false → but_index (Some info) ≡ Some info
kept_if info h = ap (λ b. elim b as (λ b. Option RelInfo) [ true ↦ None | false ↦ Some info ]) h

dropped : (info : RelInfo) → is_index info.spec ≡ true → but_index (Some info) ≡ None
dropped info h = ap (λ b. elim b as (λ b. Option RelInfo) [ true ↦ None | false ↦ Some info ]) h

-- ---- an index's key is no catalogue's

is_other : (a b : RelKey) → is_catalogue_name b.name ≡ true → is_catalogue_name a.name ≡ false → same_key a b ≡ false
is_other a b h k = go (same_key a b) refl
  where
    go : (o : Bool) → same_key a b ≡ o → o ≡ false
    go false e = refl
    go true e = absurd (cc (sym (ap (λ (x : RelKey). is_catalogue_name x.name) (same_keys a b e) ∙ h) ∙ k))

no_catalogue : (db : Db) (key : RelKey) → is_catalogue_name key.name ≡ false → catalogue_at db key ≡ None
unfolding catalogue_at
no_catalogue db key h = go (same_key key (relation_key db)) (same_key key (attribute_key db)) (is_other key (relation_key db) refl h) (is_other key (attribute_key db) refl h)
  where
    go : (a b : Bool) → a ≡ false → b ≡ false
        → ◌≡◌ {A = Option Relation} (elim a [
          | true ↦ Some (record { info = relation_info db; rows = set_of (map relation_row (all_entries db)) })
          | false ↦ elim b [ true ↦ Some (record { info = attribute_info db; rows = set_of (flat_map attribute_rows (all_entries db)) }) | false ↦ None ]
        ]) None
    go true b h k = absurd (cc h)
    go false true h k = absurd (cc k)
    go false false h k = refl

catalogue_plain : (db : Db) (key : RelKey) (r : Relation) → catalogue_at db key ≡ Some r → is_index r.info.spec ≡ false
unfolding catalogue_at
catalogue_plain db key r h = go (same_key key (relation_key db)) (same_key key (attribute_key db)) h
  where
    go : (a b : Bool)
        → ◌≡◌ {A = Option Relation} (elim a [
          | true ↦ Some (record { info = relation_info db; rows = set_of (map relation_row (all_entries db)) })
          | false ↦ elim b [ true ↦ Some (record { info = attribute_info db; rows = set_of (flat_map attribute_rows (all_entries db)) }) | false ↦ None ]
        ]) (Some r) → is_index r.info.spec ≡ false
    go true b k =
        let same : record { info = relation_info db; rows = set_of (map relation_row (all_entries db)) } ≡ r = cc k in
        sym (ap (λ (x : Relation). is_index x.info.spec) same)
    go false true k =
        let same : record { info = attribute_info db; rows = set_of (flat_map attribute_rows (all_entries db)) } ≡ r = cc k in
        sym (ap (λ (x : Relation). is_index x.info.spec) same)
    go false false k = absurd (cc k)

plain_name : (db : Db) → IsDatabase db → (key : RelKey) (x : Index) → index_at db key ≡ Some x → is_catalogue_name key.name ≡ false
plain_name db is key x e =
    ap (λ (k : RelKey). is_catalogue_name k.name) (sym (same_keys x.info.key key (find_passes (λ (x : Index). same_key x.info.key key) db.indexes x e)))
    ∙ not_so _ (right (is_name x.info.key.name) _ (right (is_name x.info.key.owner) _ named))
  where
    named_so : list_all (λ (x : Index). key_is_named x.info.key) db.indexes ≡ true
    named_so =
        passed (λ (x : Index). key_is_named x.info.key) db.indexes
        (of_map _ (λ (x : Index). x.info) db.indexes
        (back_of _ (map (λ (v : View). v.info) db.views) _
        (back_of _ (map (λ (r : Relation). r.info) db.relations) _ (each_passes (λ (i : RelInfo). key_is_named i.key) (entries db) is.keys_are_named))))

    named : key_is_named x.info.key ≡ true
    named = found_passes (λ (x : Index). same_key x.info.key key) (λ (x : Index). key_is_named x.info.key) db.indexes x named_so e

    not_so : (b : Bool) → not b ≡ true → b ≡ false
    not_so true h = absurd (cc h)
    not_so false h = refl

-- ---- what may be ranged over

pub info_parts : (db : Db) (key : RelKey)
    → info_at db key ≡ option_or (option_map (λ (r : Relation). r.info) (relation_at db key)) (option_or (option_map (λ (v : View). v.info) (view_at db key)) (option_map (λ (r : Relation). r.info) (catalogue_at db key)))
unfolding info_at range_at
info_parts db key = go (relation_at db key) (view_at db key) (catalogue_at db key)
  where
    go : (r : Option Relation) (v : Option View) (c : Option Relation)
        → option_map range_info (elim r [
          | Some relation ↦ Some (Kept relation)
          | None ↦ elim v [ Some view ↦ Some (Viewed view) | None ↦ option_map Kept c ]
        ]) ≡ option_or (option_map (λ (r : Relation). r.info) r) (option_or (option_map (λ (v : View). v.info) v) (option_map (λ (r : Relation). r.info) c))
    go (Some r) v c = refl
    go None (Some v) c = refl
    go None None (Some c) = refl
    go None None None = refl

pub known_parts : (db : Db) (key : RelKey) → known_at db key ≡ option_or (entry_at db key) (option_map (λ (r : Relation). r.info) (catalogue_at db key))
unfolding known_at
known_parts db key = go (entry_at db key)
  where
    go : (o : Option RelInfo)
        → ◌≡◌ {A = Option RelInfo} (elim o [ Some info ↦ Some info | None ↦ option_map (λ r. r.info) (catalogue_at db key) ])
        (option_or o (option_map (λ (r : Relation). r.info) (catalogue_at db key)))
    go None = refl
    go (Some info) = refl

-- of all that is known under a key an index alone may not be ranged over
pub ranged_if : (db : Db) → IsDatabase db → (key : RelKey) → but_index (known_at db key) ≡ info_at db key
ranged_if db is key =
    ap but_index (known_parts db key ∙ ap (λ o. option_or o (option_map (λ (r : Relation). r.info) (catalogue_at db key))) (entry_parts db key))
    ∙ go (relation_at db key) refl (view_at db key) refl (index_at db key) refl (catalogue_at db key) refl ∙ sym (info_parts db key)
  where
    go : (r : Option Relation) → relation_at db key ≡ r → (v : Option View) → view_at db key ≡ v → (x : Option Index) → index_at db key ≡ x → (c : Option Relation)
        → catalogue_at db key ≡ c
        → but_index (option_or
        (option_or (option_map (λ (r : Relation). r.info) r) (option_or (option_map (λ (v : View). v.info) v) (option_map (λ (x : Index). x.info) x)))
        (option_map (λ (r : Relation). r.info) c))
        ≡ option_or (option_map (λ (r : Relation). r.info) r) (option_or (option_map (λ (v : View). v.info) v) (option_map (λ (r : Relation). r.info) c))
    go (Some r) e v f x g c h =
        kept_if r.info (no_structure r.info (found_passes (λ (r : Relation). same_key r.info.key key) (λ (r : Relation). valid_structure r.info) db.relations r is.structures_stand e))
    go None e (Some v) f x g c h =
        kept_if v.info (no_view v.info (found_passes (λ (v : View). same_key v.info.key key) (λ (v : View). valid_view_info v.info) db.views v is.view_infos_stand f))
    go None e None f (Some x) g c h =
        dropped x.info (an_index db x (found_passes (λ (x : Index). same_key x.info.key key) (valid_index db) db.indexes x is.indexes_stand g))
        ∙ ap (option_map (λ (r : Relation). r.info)) (sym (no_catalogue db key (plain_name db is key x g)) ∙ h)
    go None e None f None g (Some c) h = kept_if c.info (catalogue_plain db key c h)
    go None e None f None g None h = refl
