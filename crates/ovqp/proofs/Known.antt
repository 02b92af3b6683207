-- What is known of a key has the attributes of what may be ranged over there.
use Rattle.std.proofs.Common.{◌≡◌, refl, sym, ap, ◌∙◌, subst, cond, Bool, true, false, List, [], ◌∷◌, ◌++◌, map, Option, Some, None}
use Rattle.std.specs.Prelude.{codes, option_map, not, ◌||◌}
use Rattle.std.specs.List.{find, list_all}
use Rattle.std.specs.Str.{bytes_eq}
use Rattle.std.proofs.lemmas.List.Folds.{list_all-append, list_all-map}
use Rattle.calculus.specs.declared.query.RelKey.{RelKey}
use Rattle.calculus.specs.declared.schema.Attr.{Attr}
use Rattle.calculus.specs.declared.schema.RelInfo.{RelInfo}
use Rattle.calculus.specs.Name.{is_name}
use Rattle.calculus.specs.Keys.{same_key}
use Rattle.calculus.specs.Lists.{is_any}
use Rattle.calculus.specs.Structures.{is_index}
use Rattle.calculus.specs.Database.{Db, Relation, View, Index, relation_at, view_at, index_at, is_relation, entry_at}
use Rattle.calculus.specs.Catalogue.{is_catalogue_name, relation_key, attribute_key, catalogue_at}
use Rattle.calculus.specs.Stored.{Kept, Viewed, range_at, range_info, info_at, attrs_in, attrs_at}
use Rattle.calculus.specs.IsDatabase.{IsDatabase, key_is_named, valid_index}
use Rattle.quel_meaning.proofs.DatabaseFacts.{found_passes}
use Rattle.quel_meaning.proofs.Each.{left, right}
use Rattle.quel_meaning.proofs.Keys.{find_passes, same_keys}
use Rattle.base_trait.specs.Known.{known_at}

-- the first of these, or else the second
abbrev or_else : {X : Type 0} → Option X → Option X → Option X
or_else None later = later
or_else (Some x) later = Some x

or_else-cond : {X : Type 0} (b : Bool) (x : X) (o later : Option X) → cond b (Some x) (or_else o later) ≡ or_else (cond b (Some x) o) later
or_else-cond true x o later = refl
or_else-cond false x o later = refl

find-append : {X : Type 0} (p : X → Bool) (xs ys : List X) → find p (xs ++ ys) ≡ or_else (find p xs) (find p ys)
find-append p [] ys = refl
find-append p (x ∷ xs) ys = ap (cond (p x) (Some x)) (find-append p xs ys) ∙ or_else-cond (p x) x (find p xs) (find p ys)

cond-map : {X Y : Type 0} (f : X → Y) (b : Bool) (x : X) (o : Option X) → cond b (Some (f x)) (option_map f o) ≡ option_map f (cond b (Some x) o)
cond-map f true x o = refl
cond-map f false x o = refl

find-map : {X Y : Type 0} (p : Y → Bool) (f : X → Y) (xs : List X) → find p (map f xs) ≡ option_map f (find (λ x. p (f x)) xs)
find-map p f [] = refl
find-map p f (x ∷ xs) = ap (cond (p (f x)) (Some (f x))) (find-map p f xs) ∙ cond-map f (p (f x)) x (find (λ x. p (f x)) xs)

-- what is known of a key, by where it stands
abbrev entry_by : Option Relation → Option View → Option Index → Option RelInfo
entry_by r v x = or_else (option_map (λ r. r.info) r) (or_else (option_map (λ v. v.info) v) (option_map (λ x. x.info) x))

entry_parts : (db : Db) (key : RelKey) → entry_at db key ≡ entry_by (relation_at db key) (view_at db key) (index_at db key)
entry_parts db key =
    find-append (λ i. same_key i.key key) (map (λ r. r.info) db.relations) (map (λ v. v.info) db.views ++ map (λ x. x.info) db.indexes)
    ∙ (λ j. or_else (find-map (λ i. same_key i.key key) (λ (r : Relation). r.info) db.relations j)
    ((find-append (λ i. same_key i.key key) (map (λ v. v.info) db.views) (map (λ x. x.info) db.indexes)
    ∙ (λ k. or_else (find-map (λ i. same_key i.key key) (λ (v : View). v.info) db.views k) (find-map (λ i. same_key i.key key) (λ (x : Index). x.info) db.indexes k))) j))

-- ---- an index has no attributes, and no catalogue's name

unnamed : (attrs : List Attr) → not (is_any attrs) ≡ true → attrs ≡ []
unnamed [] h = refl
unnamed (a ∷ attrs) h = absurd (cc h)

index_unnamed : (db : Db) (x : Index) → valid_index db x ≡ true → x.info.attrs ≡ []
index_unnamed db x h = unnamed x.info.attrs (left (not (is_any x.info.attrs)) _ (right (is_relation db x.base) _ (right (is_index x.info.spec) _ h)))

not_so : (b : Bool) → not b ≡ true → b ≡ false
not_so true h = absurd (cc h)
not_so false h = refl

-- the first catalogue, the second one, or none
abbrev catalogue_by : Bool → Bool → Relation → Relation → Option Relation
catalogue_by a b x y = elim a [ true ↦ Some x | false ↦ elim b [ true ↦ Some y | false ↦ None ] ]

no_catalogue : (a b : Bool) (x y : Relation) → (a ≡ true → ⊥) → (b ≡ true → ⊥) → catalogue_by a b x y ≡ None
no_catalogue true b x y f g = absurd (f refl)
no_catalogue false true x y f g = absurd (g refl)
no_catalogue false false x y f g = refl

or_none : (a b : Bool) → (a || b) ≡ false → (a ≡ false) × (b ≡ false)
or_none true b h = absurd (cc h)
or_none false b h = (refl, h)

clash : (b : Bool) → b ≡ true → b ≡ false → ⊥
clash b h k = let no : true ≡ false = sym h ∙ k in cc no

uncatalogued : (db : Db) (key : RelKey) → is_catalogue_name key.name ≡ false → catalogue_at db key ≡ None
unfolding catalogue_at
uncatalogued db key h =
    let names = or_none (bytes_eq key.name (codes "relation")) (bytes_eq key.name (codes "attribute")) h in
    no_catalogue (same_key key (relation_key db)) (same_key key (attribute_key db)) _ _
    (λ e. clash (bytes_eq key.name (codes "relation")) (right (bytes_eq key.owner db.dba) _ e) names.0)
    (λ e. clash (bytes_eq key.name (codes "attribute")) (right (bytes_eq key.owner db.dba) _ e) names.1)

indexes_named : (db : Db) → IsDatabase db → list_all (λ (x : Index). key_is_named x.info.key) db.indexes ≡ true
indexes_named db is =
    let all = sym (list_all-append (λ i. key_is_named i.key) (map (λ r. r.info) db.relations) (map (λ v. v.info) db.views ++ map (λ x. x.info) db.indexes)) ∙ is.keys_are_named in
    let more = right (list_all (λ i. key_is_named i.key) (map (λ r. r.info) db.relations)) _ all in
    let both = sym (list_all-append (λ i. key_is_named i.key) (map (λ v. v.info) db.views) (map (λ x. x.info) db.indexes)) ∙ more in
    sym (list_all-map (λ i. key_is_named i.key) (λ (x : Index). x.info) db.indexes) ∙ right (list_all (λ i. key_is_named i.key) (map (λ v. v.info) db.views)) _ both

index_uncatalogued : (db : Db) → IsDatabase db → (key : RelKey) (x : Index) → index_at db key ≡ Some x → catalogue_at db key ≡ None
index_uncatalogued db is key x e =
    let same : x.info.key ≡ key = same_keys x.info.key key (find_passes (λ (x : Index). same_key x.info.key key) db.indexes x e) in
    let named = found_passes (λ (x : Index). same_key x.info.key key) (λ (x : Index). key_is_named x.info.key) db.indexes x (indexes_named db is) e in
    let other = right (is_name x.info.key.name) _ (right (is_name x.info.key.owner) _ named) in
    subst (λ k. catalogue_at db k ≡ None) same (uncatalogued db x.info.key (not_so (is_catalogue_name x.info.key.name) other))

-- ---- the attributes

by_place : (r : Option Relation) (v : Option View) (x : Option Index) (c : Option Relation) → ((i : Index) → x ≡ Some i → (i.info.attrs ≡ []) × (c ≡ None))
    → attrs_in (elim (entry_by r v x) [ Some info ↦ Some info | None ↦ option_map (λ r. r.info) c ])
    ≡ attrs_in (option_map range_info (elim r [ Some relation ↦ Some (Kept relation) | None ↦ elim v [ Some view ↦ Some (Viewed view) | None ↦ option_map Kept c ] ]))
by_place (Some r) v x c f = refl
by_place None (Some v) x c f = refl
by_place None None (Some i) c f = (f i refl).0 ∙ ap (λ c. attrs_in (option_map range_info (option_map Kept c))) (sym (f i refl).1)
by_place None None None (Some c) f = refl
by_place None None None None f = refl

pub known_attrs : (db : Db) → IsDatabase db → (key : RelKey) → attrs_in (known_at db key) ≡ attrs_at db key
unfolding known_at info_at range_at
known_attrs db is key =
    ap (λ entry. attrs_in (elim entry [ Some info ↦ Some info | None ↦ option_map (λ r. r.info) (catalogue_at db key) ])) (entry_parts db key)
    ∙ by_place (relation_at db key) (view_at db key) (index_at db key) (catalogue_at db key)
    (λ i e. (index_unnamed db i (found_passes (λ (x : Index). same_key x.info.key key) (valid_index db) db.indexes i is.indexes_stand e), index_uncatalogued db is key i e))
