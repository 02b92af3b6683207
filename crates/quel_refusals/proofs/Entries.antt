-- What stands under a key of a database: entries, ranges and catalogues.
use Rattle.std.proofs.Common.{◌≡◌, refl, sym, ap, ◌∙◌, subst, ℕ, Bool, true, false, not, ◌||◌, ◌&&◌, cond, List, [], ◌∷◌, ◌++◌, map, Option, Some, None, is_some, codes}
use Rattle.std.specs.List.{find, flat_map}
use Rattle.std.specs.Option.{option_map, option_or}
use Rattle.std.specs.Str.{bytes_eq}
use Rattle.std.proofs.lemmas.List.Folds.{find-append}
use Rattle.calculus.specs.declared.query.RelKey.{RelKey}
use Rattle.calculus.specs.declared.schema.Attr.{Attr}
use Rattle.calculus.specs.declared.schema.RelInfo.{RelInfo}
use Rattle.calculus.specs.Keys.{same_key, key_of}
use Rattle.calculus.specs.Lists.{is_any}
use Rattle.calculus.specs.Database.{Db, Relation, Index, View, entries, entry_at, relation_at, view_at, index_at, is_relation}
use Rattle.calculus.specs.Rows.{set_of}
use Rattle.calculus.specs.Name.{is_name}
use Rattle.calculus.specs.Catalogue.{catalogue_at, is_catalogue_name, relation_info, attribute_info, relation_row, attribute_rows, all_entries}
use Rattle.calculus.specs.IsDatabase.{IsDatabase, key_is_named, valid_index}
use Rattle.calculus.specs.Stored.{Range, Kept, Viewed, range_at, range_info, info_at, attrs_in, attrs_at, kinds_at}
use Rattle.calculus.specs.Structures.{is_index}
use Rattle.base_trait.specs.Known.{known_at}
use Rattle.quel_meaning.specs.Passing.{is_taken}
use Rattle.quel_meaning.proofs.Each.{left, right}
use Rattle.quel_meaning.proofs.Keys.{find_passes, same_keys}
use Rattle.quel_meaning.proofs.DatabaseFacts.{found_passes}

-- ---- catalogues

-- a key whose name isn't a catalogue's is none of a catalogue
pub no_catalogue : (db : Db) (key : RelKey) → is_catalogue_name key.name ≡ false → catalogue_at db key ≡ None
unfolding catalogue_at
no_catalogue db key h = go (bytes_eq key.owner db.dba) (bytes_eq key.name (codes "relation")) (bytes_eq key.name (codes "attribute")) h
  where
    go : (o a b : Bool) → (a || b) ≡ false
        → ◌≡◌ {A = Option Relation} (elim (o && a) [
          | true ↦ Some (record { info = relation_info db; rows = set_of (map relation_row (all_entries db)) })
          | false ↦ elim (o && b) [ true ↦ Some (record { info = attribute_info db; rows = set_of (flat_map attribute_rows (all_entries db)) }) | false ↦ None ]
        ]) None
    go o true b h = absurd (cc h)
    go o false true h = absurd (cc h)
    go true false false h = refl
    go false false false h = refl

-- where the name is no catalogue's, something is known under a key where something stands there
pub taken_where_known : (db : Db) (user name : List ℕ) → is_catalogue_name name ≡ false → is_some (known_at db (key_of user name)) ≡ is_taken db user name
unfolding known_at is_taken
taken_where_known db user name h =
    ap (λ (c : Option Relation). is_some (elim (entry_at db (key_of user name)) as (λ x. Option RelInfo) [ Some info ↦ Some info | None ↦ option_map (λ r. r.info) c ])) (no_catalogue db (key_of user name) h)
    ∙ go (entry_at db (key_of user name)) ∙ sym (ap (λ b. is_some (entry_at db (key_of user name)) || b) h)
  where
    go : (o : Option RelInfo) → is_some (elim o as (λ x. Option RelInfo) [ Some info ↦ Some info | None ↦ option_map (λ (r : Relation). r.info) None ]) ≡ (is_some o || false)
    go None = refl
    go (Some info) = refl

-- a catalogue's name is in use
pub taken_by_catalogue : (db : Db) (user name : List ℕ) → is_catalogue_name name ≡ true → true ≡ is_taken db user name
unfolding is_taken
taken_by_catalogue db user name h = go (is_some (entry_at db (key_of user name))) ∙ sym (ap (λ b. is_some (entry_at db (key_of user name)) || b) h)
  where
    go : (b : Bool) → true ≡ (b || true)
    go true = refl
    go false = refl

-- ---- entries

pub find_mapped : {X Y : Type 0} (p : Y → Bool) (f : X → Y) (xs : List X) → find p (map f xs) ≡ option_map f (find (λ x. p (f x)) xs)
find_mapped p f [] = refl
find_mapped p f (x ∷ xs) = go (p (f x)) (find_mapped p f xs)
  where
    go : (b : Bool) → find p (map f xs) ≡ option_map f (find (λ x. p (f x)) xs)
        → cond b (Some (f x)) (find p (map f xs)) ≡ option_map f (cond b (Some x) (find (λ x. p (f x)) xs))
    go true e = refl
    go false e = e

-- an entry is the relation under the key, else the view, else the index
entry_parts : (db : Db) (key : RelKey)
    → entry_at db key ≡ option_or (option_map (λ r. r.info) (relation_at db key)) (option_or (option_map (λ v. v.info) (view_at db key)) (option_map (λ x. x.info) (index_at db key)))
entry_parts db key =
    find-append (λ i. same_key i.key key) (map (λ r. r.info) db.relations) (map (λ v. v.info) db.views ++ map (λ x. x.info) db.indexes)
    ∙ (λ i. option_or (find_mapped (λ i. same_key i.key key) (λ r. r.info) db.relations i)
    ((find-append (λ i. same_key i.key key) (map (λ v. v.info) db.views) (map (λ x. x.info) db.indexes)
    ∙ (λ j. option_or (find_mapped (λ i. same_key i.key key) (λ v. v.info) db.views j) (find_mapped (λ i. same_key i.key key) (λ x. x.info) db.indexes j))) i))

-- an index that stands has no attributes
no_attrs : (db : Db) (x : Index) → valid_index db x ≡ true → x.info.attrs ≡ []
no_attrs db x h = none x.info.attrs (not_any _ (left _ _ (right (is_relation db x.base) _ (right (is_index x.info.spec) _ h))))
  where
    none : (attrs : List Attr) → is_any attrs ≡ false → attrs ≡ []
    none [] h = refl
    none (a ∷ attrs) h = absurd (cc h)

    not_any : (b : Bool) → not b ≡ true → b ≡ false
    not_any true h = absurd (cc h)
    not_any false h = refl

-- an entry's key has no catalogue's name
pub named_apart : (db : Db) → IsDatabase db → (key : RelKey) (info : RelInfo) → entry_at db key ≡ Some info → is_catalogue_name key.name ≡ false
named_apart db is key info e =
    let named : key_is_named info.key ≡ true = found_passes (λ (i : RelInfo). same_key i.key key) (λ (i : RelInfo). key_is_named i.key) (entries db) info is.keys_are_named e in
    let same : info.key ≡ key = same_keys info.key key (find_passes (λ (i : RelInfo). same_key i.key key) (entries db) info e) in
    not_any _ (right (is_name key.name) _ (right (is_name key.owner) _ (subst (λ k. key_is_named k ≡ true) same named)))
  where
    not_any : (b : Bool) → not b ≡ true → b ≡ false
    not_any true h = absurd (cc h)
    not_any false h = refl

-- what is known of what stands under a key has the attributes of what a variable may range over
pub attrs_known : (db : Db) → IsDatabase db → (key : RelKey) → attrs_in (known_at db key) ≡ attrs_at db key
unfolding known_at info_at range_at
attrs_known db is key =
    ap (λ (o : Option RelInfo). attrs_in (elim o as (λ x. Option RelInfo) [ Some info ↦ Some info | None ↦ option_map (λ r. r.info) (catalogue_at db key) ])) (entry_parts db key)
    ∙ go (relation_at db key) refl (view_at db key) refl (index_at db key) refl (catalogue_at db key) refl
  where
    kept : (c : Option Relation) → attrs_in (option_map (λ r. r.info) c) ≡ attrs_in (option_map range_info (option_map Kept c))
    kept None = refl
    kept (Some r) = refl

    indexed : (x : Index) → relation_at db key ≡ None → view_at db key ≡ None → index_at db key ≡ Some x → x.info.attrs ≡ attrs_in (option_map range_info (option_map Kept (catalogue_at db key)))
    indexed x e f g =
        let there : entry_at db key ≡ Some x.info =
        entry_parts db key ∙ (λ i. option_or (option_map (λ r. r.info) (e i)) (option_or (option_map (λ v. v.info) (f i)) (option_map (λ x. x.info) (g i)))) in
        no_attrs db x (found_passes (λ (x : Index). same_key x.info.key key) (valid_index db) db.indexes x is.indexes_stand g)
        ∙ ap (λ c. attrs_in (option_map range_info (option_map Kept c))) (sym (no_catalogue db key (named_apart db is key x.info there)))

    go : (r : Option Relation) → relation_at db key ≡ r → (v : Option View) → view_at db key ≡ v → (x : Option Index) → index_at db key ≡ x
        → (c : Option Relation) → catalogue_at db key ≡ c
        → attrs_in (elim (option_or (option_map (λ r. r.info) r) (option_or (option_map (λ v. v.info) v) (option_map (λ x. x.info) x))) as (λ x. Option RelInfo) [ Some info ↦ Some info | None ↦ option_map (λ r. r.info) c ])
        ≡ attrs_in (option_map range_info (elim r as (λ x. Option Range) [ Some relation ↦ Some (Kept relation) | None ↦ elim v as (λ x. Option Range) [ Some view ↦ Some (Viewed view) | None ↦ option_map Kept c ] ]))
    go (Some r) e v f x g c h = refl
    go None e (Some v) f x g c h = refl
    go None e None f (Some x) g c h = indexed x e f g ∙ ap (λ c. attrs_in (option_map range_info (option_map Kept c))) h
    go None e None f None g c h = kept c

-- so have their kinds
pub kinds_known : (db : Db) → IsDatabase db → (key : RelKey) → map (λ a. a.kind) (attrs_in (known_at db key)) ≡ kinds_at db key
kinds_known db is key = ap (map (λ a. a.kind)) (attrs_known db is key)
