-- What variables range over in a database that has all relations and indexes of another, and some of its views.
use Rattle.std.proofs.Common.{◌≡◌, refl, sym, ap, ◌∙◌, subst, inl, inr, ◌⊎◌, Bool, true, false, ◌&&◌, ◌||◌, not, cond, IsTrue, List, [], ◌∷◌, Option, Some, None, map}
use Rattle.std.specs.Prelude.{find, is_some, bytes_eq, codes, flat_map, option_map}
use Rattle.std.specs.List.{list_all}
use Rattle.calculus.specs.declared.query.RelKey.{RelKey}
use Rattle.calculus.specs.Catalogue.{is_catalogue_name, is_catalogue, catalogue_at, relation_key, attribute_key, relation_info, attribute_info, relation_row, attribute_rows, all_entries}
use Rattle.calculus.specs.Database.{Db, Relation, View, relation_at, view_at, is_relation}
use Rattle.calculus.specs.IsDatabase.{IsDatabase, key_is_named, vars_are_there}
use Rattle.calculus.specs.Keys.{same_key, key_of}
use Rattle.calculus.specs.Name.{is_name}
use Rattle.calculus.specs.QueryParts.{vars_of}
use Rattle.calculus.specs.Rows.{Row, set_of}
use Rattle.calculus.specs.Stored.{Viewed, range_at, range_info, info_at, attrs_in, attrs_at}
use Rattle.plan_laws.proofs.Alike.{AlikeRange}
use Rattle.plan_laws.proofs.Created.{viewed_is_found, found_has, each_true}
use Rattle.plan_laws.proofs.Indexes.{is_no}
use Rattle.plan_laws.proofs.Kept.{both}
use Rattle.plan_laws.proofs.Orders.{same_key_is}
use Rattle.plan_laws.proofs.Planned.{neither, no_catalogue}
use Rattle.plan_laws.proofs.Ranging.{AlikeRelation, ranged}
use Rattle.plan_laws.proofs.Staying.{Staying}
use Rattle.catalog_read.proofs.Shuffles.{Pairwise}
use Rattle.catalog_read.proofs.Members.{IsIn, of_all, in_test}

-- ---- what is found

-- what is found is one of them, and passes
pub found_in : {X : Type 0} (test : X → Bool) (xs : List X) (x : X) → find test xs ≡ Some x → IsIn x xs × (test x ≡ true)
found_in test [] x e = cc e
found_in {X} test (y ∷ ys) x e = go (test y) refl e (found_in test ys x)
  where
    the : {x y : X} → Some x ≡ Some y → x ≡ y
    the e = cc e

    go : (b : Bool) → test y ≡ b → cond b (Some y) (find test ys) ≡ Some x → (find test ys ≡ Some x → IsIn x ys × (test x ≡ true)) → IsIn x (y ∷ ys) × (test x ≡ true)
    go true f e later = (inl (sym (the e)), ap test (sym (the e)) ∙ f)
    go false f e later = let found = later e in (inr found.0, found.1)

-- keys of views differ
abbrev pub ViewsDiffer : List View → Type 0
ViewsDiffer = Pairwise (λ v w. same_key v.info.key w.info.key ≡ false)

-- a view is found under its key
pub view_found : (key : RelKey) (views : List View) (view : View) → ViewsDiffer views → IsIn view views → same_key view.info.key key ≡ true → find (λ v. same_key v.info.key key) views ≡ Some view
view_found key [] view differ at e = absurd at
view_found key (v ∷ views) view differ (inl is) e = ap (λ b. cond b (Some v) (find (λ v. same_key v.info.key key) views)) (ap (λ (w : View). same_key w.info.key key) (sym is) ∙ e) ∙ ap Some (sym is)
view_found key (v ∷ views) view differ (inr at) e =
    ap (λ b. cond b (Some v) (find (λ v. same_key v.info.key key) views)) other ∙ view_found key views view differ.1 at e
  where
    other : same_key v.info.key key ≡ false
    other = ap (same_key v.info.key) (sym (same_key_is view.info.key key e)) ∙ of_all (λ w. same_key v.info.key w.info.key ≡ false) views view differ.0 at

-- ---- catalogues

named_is_no_catalogue : (db : Db) (key : RelKey) → IsTrue (key_is_named key) → is_catalogue db key ≡ false
named_is_no_catalogue db key t =
    let names = both (is_name key.owner) (is_name key.name && not (is_catalogue_name key.name)) t in
    let name = both (is_name key.name) (not (is_catalogue_name key.name)) names.1 in
    let neither_name = neither (bytes_eq key.name (codes "relation")) (bytes_eq key.name (codes "attribute")) (is_no (is_catalogue_name key.name) name.1) in
    (λ i. (bytes_eq key.owner db.dba && neither_name.0 i) || (bytes_eq key.owner db.dba && neither_name.1 i)) ∙ and_false (bytes_eq key.owner db.dba)
  where
    and_false : (b : Bool) → ((b && false) || (b && false)) ≡ false
    and_false true = refl
    and_false false = refl

-- catalogues of databases of one administrator are alike
catalogues_alike : (part whole : Db) → part.dba ≡ whole.dba → (key : RelKey) → AlikeRelation (catalogue_at part key) (catalogue_at whole key)
unfolding catalogue_at
catalogues_alike part whole dba key =
    go (same_key key (relation_key part)) (same_key key (attribute_key part)) (same_key key (relation_key whole)) (same_key key (attribute_key whole))
    (ap (λ d. same_key key (key_of d (codes "relation"))) dba) (ap (λ d. same_key key (key_of d (codes "attribute"))) dba)
    (set_of (map relation_row (all_entries part))) (set_of (flat_map attribute_rows (all_entries part)))
    (set_of (map relation_row (all_entries whole))) (set_of (flat_map attribute_rows (all_entries whole)))
  where
    catalogue : Db → Bool → Bool → List Row → List Row → Option Relation
    catalogue db a b rows others = elim a [
      | true ↦ Some (record { info = relation_info db; rows = rows })
      | false ↦ elim b [ true ↦ Some (record { info = attribute_info db; rows = others }) | false ↦ None ]
    ]

    go : (a b c d : Bool) → a ≡ c → b ≡ d → (r s t u : List Row) → AlikeRelation (catalogue part a b r s) (catalogue whole c d t u)
    go true b true d e f r s t u = refl
    go true b false d e f r s t u = cc e
    go false b true d e f r s t u = cc e
    go false true false true e f r s t u = refl
    go false true false false e f r s t u = cc f
    go false false false true e f r s t u = cc f
    go false false false false e f r s t u = tt

-- ---- a part of a database

-- the one database has the administrator and the relations of the other, and some of its views
pub record IsPart (part whole : Db) : Type 0 where
  pub administrator : part.dba ≡ whole.dba
  pub relations : part.relations ≡ whole.relations
  pub views : (view : View) → IsIn view part.views → IsIn view whole.views

-- the keys of its views are named and differ
pub record HasViews (db : Db) : Type 0 where
  pub differ : ViewsDiffer db.views
  pub named : IsTrue (list_all (λ v. key_is_named v.info.key) db.views)

same_found : (part whole : Db) → IsPart part whole → (key : RelKey) → relation_at part key ≡ relation_at whole key
same_found part whole is key = ap (find (λ (r : Relation). same_key r.info.key key)) is.relations

pub relation_same : (part whole : Db) → IsPart part whole → (key : RelKey) → is_relation part key ≡ is_relation whole key
relation_same part whole is key = ap is_some (same_found part whole is key)

-- a relation has its attributes there
pub attrs_same : (part whole : Db) → IsPart part whole → (key : RelKey) → is_relation whole key ≡ true → attrs_at part key ≡ attrs_at whole key
unfolding info_at range_at
attrs_same part whole is key there =
    ap (λ r. attrs_in (option_map range_info (ranged r (view_at part key) (catalogue_at part key)))) (same_found part whole is key)
    ∙ go (relation_at whole key) there (view_at part key) (view_at whole key) (catalogue_at part key) (catalogue_at whole key)
  where
    go : (r : Option Relation) → is_some r ≡ true → (v w : Option View) (c d : Option Relation) → attrs_in (option_map range_info (ranged r v c)) ≡ attrs_in (option_map range_info (ranged r w d))
    go None h v w c d = cc h
    go (Some r) h v w c d = refl

-- what stands under a key, where something does
ranged_part : (r : Option Relation) (v w : Option View) (c d : Option Relation)
    → ((view : View) → v ≡ Some view → w ≡ Some view) → (is_some c ≡ true → w ≡ None) → AlikeRelation c d → is_some (ranged r v c) ≡ true → AlikeRange (ranged r v c) (ranged r w d)
ranged_part (Some r) v w c d views none same h = refl
ranged_part None (Some v) None c d views none same h = cc (views v refl)
ranged_part None (Some v) (Some w) c d views none same h = cc (views v refl)
ranged_part None None (Some w) (Some c) d views none same h = cc (none refl)
ranged_part None None (Some w) None d views none same h = cc h
ranged_part None None None (Some c) (Some d) views none same h = same
ranged_part None None None (Some c) None views none same h = absurd same
ranged_part None None None None d views none same h = cc h

pub ranges_alike : (part whole : Db) → IsPart part whole → HasViews whole → (key : RelKey) → is_some (range_at part key) ≡ true → AlikeRange (range_at part key) (range_at whole key)
unfolding range_at
ranges_alike part whole is has key there =
    subst (λ r. AlikeRange (range_at part key) (ranged r (view_at whole key) (catalogue_at whole key))) (same_found part whole is key)
    (ranged_part (relation_at part key) (view_at part key) (view_at whole key) (catalogue_at part key) (catalogue_at whole key) views (none (view_at whole key) refl) (catalogues_alike part whole is.administrator key) there)
  where
    views : (view : View) → view_at part key ≡ Some view → view_at whole key ≡ Some view
    views view e = let found = found_in (λ v. same_key v.info.key key) part.views view e in view_found key whole.views view has.differ (is.views view found.0) found.1

    none : (v : Option View) → view_at whole key ≡ v → is_some (catalogue_at part key) ≡ true → v ≡ None
    none None e there = refl
    none (Some view) e there =
        let found = found_in (λ v. same_key v.info.key key) whole.views view e in
        let named = in_test (λ v. key_is_named v.info.key) whole.views view has.named found.0 in
        let own = subst (λ k. IsTrue (key_is_named k)) (same_key_is view.info.key key found.1) named in
        let nothing = ap is_some (no_catalogue part key (named_is_no_catalogue part key own)) in
        cc (sym there ∙ nothing)

-- something is there in the part
abbrev pub IsThere : Db → RelKey → Type 0
IsThere db key = is_some (range_at db key) ≡ true

-- what is there in the part is there in the whole as it is
pub part_stays : (part whole : Db) → IsDatabase part → IsPart part whole → HasViews whole → Staying (IsThere part) part whole
part_stays part whole database is has = record {
  ranges = λ key there. ranges_alike part whole is has key there;
  relations = λ key there. relation_same part whole is key;
  closed = λ key view there e. each_true (λ key. is_some (range_at part key)) (vars_of view.query)
      (found_has (λ v. IsTrue (vars_are_there part v.query)) (λ v. same_key v.info.key key) part.views view
      (each_true (λ v. vars_are_there part v.query) part.views database.views_name_what_is_there) (viewed_is_found part key view e));
}

-- ---- what of the whole is there in the part

-- a relation or a catalogue is; a view is where it stands in the part
there_or_viewed : (r : Option Relation) (v w : Option View) (c d : Option Relation) → AlikeRelation c d
    → (is_some (ranged r v c) ≡ true) ⊎ ((view : View) × (w ≡ Some view) × (ranged r w d ≡ Some (Viewed view))) ⊎ (ranged r w d ≡ None)
there_or_viewed (Some r) v w c d same = inl refl
there_or_viewed None (Some v) w c d same = inl refl
there_or_viewed None None (Some w) c d same = inr (inl (w, refl, refl))
there_or_viewed None None None (Some c) d same = inl refl
there_or_viewed None None None None None same = inr (inr refl)
there_or_viewed None None None None (Some d) same = absurd same

pub there_by_cases : (part whole : Db) → IsPart part whole → (key : RelKey)
    → IsThere part key ⊎ ((view : View) × (view_at whole key ≡ Some view) × (range_at whole key ≡ Some (Viewed view))) ⊎ (range_at whole key ≡ None)
unfolding range_at
there_by_cases part whole is key =
    subst (λ r. (is_some (range_at part key) ≡ true) ⊎ ((view : View) × (view_at whole key ≡ Some view) × (ranged r (view_at whole key) (catalogue_at whole key) ≡ Some (Viewed view))) ⊎ (ranged r (view_at whole key) (catalogue_at whole key) ≡ None))
    (same_found part whole is key)
    (there_or_viewed (relation_at part key) (view_at part key) (view_at whole key) (catalogue_at part key) (catalogue_at whole key) (catalogues_alike part whole is.administrator key))

-- a view that stands in the part is there
pub view_there : (part : Db) (key : RelKey) (view : View) → ViewsDiffer part.views → IsIn view part.views → same_key view.info.key key ≡ true → IsThere part key
unfolding range_at
view_there part key view differ at e = go (relation_at part key) (view_at part key) (catalogue_at part key) (view_found key part.views view differ at e)
  where
    go : (r : Option Relation) (v : Option View) (c : Option Relation) → v ≡ Some view → is_some (ranged r v c) ≡ true
    go (Some r) v c e = refl
    go None (Some v) c e = refl
    go None None c e = cc e
