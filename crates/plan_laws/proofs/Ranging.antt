-- Databases whose relations have the same keys and attributes, and whose views are the same, are alike.
use Rattle.std.proofs.Common.{◌≡◌, refl, sym, ap, Bool, true, false, cond, List, [], ◌∷◌, Option, Some, None, map}
use Rattle.std.specs.Prelude.{flat_map, find, is_some, option_map}
use Rattle.calculus.specs.declared.query.RelKey.{RelKey}
use Rattle.calculus.specs.Keys.{same_key}
use Rattle.calculus.specs.Database.{Db, Relation, View, Index, relation_at, view_at}
use Rattle.calculus.specs.Catalogue.{relation_key, attribute_key, catalogue_at, relation_info, attribute_info, relation_row, attribute_rows, all_entries}
use Rattle.calculus.specs.Rows.{Row, set_of}
use Rattle.calculus.specs.Stored.{Range, Kept, Viewed, range_at}
use Rattle.calculus.specs.Change.{change_at}
use Rattle.plan_laws.proofs.Alike.{Alike, AlikeRange}

-- ---- a relation that is changed

-- the change keeps key and attributes of each relation
pub record Keeps (f : Relation → Relation) : Type 0 where
  pub key : (r : Relation) → (f r).info.key ≡ r.info.key
  pub attrs : (r : Relation) → (f r).info.attrs ≡ r.info.attrs

-- the relation, changed where it has this key
abbrev pub changed_at : RelKey → (Relation → Relation) → Relation → Relation
changed_at rel f r = elim (same_key r.info.key rel) [ true ↦ f r | false ↦ r ]

-- a relation is changed or stays
pub changed_cases : (rel : RelKey) (f : Relation → Relation) (P : Relation → Type 0) (r : Relation) → (same_key r.info.key rel ≡ true → P (f r)) → P r → P (changed_at rel f r)
changed_cases rel f P r own other = go (same_key r.info.key rel) refl
  where
    go : (b : Bool) → same_key r.info.key rel ≡ b → P (elim b as (λ b. Relation) [ true ↦ f r | false ↦ r ])
    go true e = own e
    go false e = other

pub key_kept : (rel : RelKey) (f : Relation → Relation) → Keeps f → (r : Relation) → (changed_at rel f r).info.key ≡ r.info.key
key_kept rel f keeps r = changed_cases rel f (λ s. s.info.key ≡ r.info.key) r (λ e. keeps.key r) refl

pub attrs_kept : (rel : RelKey) (f : Relation → Relation) → Keeps f → (r : Relation) → (changed_at rel f r).info.attrs ≡ r.info.attrs
attrs_kept rel f keeps r = changed_cases rel f (λ s. s.info.attrs ≡ r.info.attrs) r (λ e. keeps.attrs r) refl

-- ---- the like under each key

-- the two are both nothing, or relations with the same attributes
abbrev pub AlikeRelation : Option Relation → Option Relation → Type 0
AlikeRelation None None = Unit {0}
AlikeRelation None (Some s) = ⊥
AlikeRelation (Some r) None = ⊥
AlikeRelation (Some r) (Some s) = r.info.attrs ≡ s.info.attrs

alike_first : (b c : Bool) → b ≡ c → (r s : Relation) → r.info.attrs ≡ s.info.attrs → (x y : Option Relation) → AlikeRelation x y
    → AlikeRelation (cond b (Some r) x) (cond c (Some s) y)
alike_first true true e r s same x y later = same
alike_first true false e r s same x y later = cc e
alike_first false true e r s same x y later = cc e
alike_first false false e r s same x y later = later

found_alike : (rel : RelKey) (f : Relation → Relation) → Keeps f → (rs : List Relation) (key : RelKey)
    → AlikeRelation (find (λ r. same_key r.info.key key) rs) (find (λ r. same_key r.info.key key) (change_at rel f rs))
found_alike rel f keeps [] key = tt
found_alike rel f keeps (r ∷ rs) key =
    alike_first (same_key r.info.key key) (same_key (changed_at rel f r).info.key key) (ap (λ k. same_key k key) (sym (key_kept rel f keeps r)))
    r (changed_at rel f r) (sym (attrs_kept rel f keeps r)) (find (λ r. same_key r.info.key key) rs) (find (λ r. same_key r.info.key key) (change_at rel f rs))
    (found_alike rel f keeps rs key)

both_there : (x y : Option Relation) → AlikeRelation x y → is_some x ≡ is_some y
both_there None None a = refl
both_there None (Some s) a = absurd a
both_there (Some r) None a = absurd a
both_there (Some r) (Some s) a = refl

-- what stands under a key: the relation, else the view, else the catalogue
abbrev pub ranged : Option Relation → Option View → Option Relation → Option Range
ranged r v c = elim r [ Some relation ↦ Some (Kept relation) | None ↦ elim v [ Some view ↦ Some (Viewed view) | None ↦ option_map Kept c ] ]

pub ranged_alike : (r s : Option Relation) → AlikeRelation r s → (v : Option View) (c d : Option Relation) → AlikeRelation c d → AlikeRange (ranged r v c) (ranged s v d)
ranged_alike None None a (Some v) c d same = refl
ranged_alike None None a None None None same = tt
ranged_alike None None a None None (Some d) same = absurd same
ranged_alike None None a None (Some c) None same = absurd same
ranged_alike None None a None (Some c) (Some d) same = same
ranged_alike None (Some s) a v c d same = absurd a
ranged_alike (Some r) None a v c d same = absurd a
ranged_alike (Some r) (Some s) a v c d same = a

-- a catalogue has its attributes whatever its rows
pub catalogue_alike : (db : Db) (relations : List Relation) (indexes : List Index) (key : RelKey)
    → AlikeRelation (catalogue_at db key) (catalogue_at (record db { relations = relations; indexes = indexes }) key)
unfolding catalogue_at
catalogue_alike db relations indexes key =
    go (same_key key (relation_key db)) (same_key key (attribute_key db))
    (set_of (map relation_row (all_entries db))) (set_of (flat_map attribute_rows (all_entries db)))
    (set_of (map relation_row (all_entries later))) (set_of (flat_map attribute_rows (all_entries later)))
  where
    later : Db
    later = record db { relations = relations; indexes = indexes }

    catalogue : Bool → Bool → List Row → List Row → Option Relation
    catalogue a b rows others = elim a [
      | true ↦ Some (record { info = relation_info db; rows = rows })
      | false ↦ elim b [ true ↦ Some (record { info = attribute_info db; rows = others }) | false ↦ None ]
    ]

    go : (a b : Bool) (r s t u : List Row) → AlikeRelation (catalogue a b r s) (catalogue a b t u)
    go true b r s t u = refl
    go false true r s t u = refl
    go false false r s t u = tt

-- a change that keeps keys and attributes leaves a database that is alike, whatever becomes of the indexes
pub changed_alike : (db : Db) (rel : RelKey) (f : Relation → Relation) (indexes : List Index) → Keeps f
    → Alike db (record db { relations = change_at rel f db.relations; indexes = indexes })
unfolding range_at
changed_alike db rel f indexes keeps = record {
  ranges = λ key. ranged_alike (relation_at db key) (relation_at later key) (found_alike rel f keeps db.relations key) (view_at db key)
      (catalogue_at db key) (catalogue_at later key) (catalogue_alike db (change_at rel f db.relations) indexes key);
  relations = λ key. both_there (relation_at db key) (relation_at later key) (found_alike rel f keeps db.relations key);
}
  where
    later : Db
    later = record db { relations = change_at rel f db.relations; indexes = indexes }

pub same_relation : (r : Option Relation) → AlikeRelation r r
same_relation None = tt
same_relation (Some r) = refl

-- other indexes leave a database that is alike
pub indexed_alike : (db : Db) (indexes : List Index) → Alike db (record db { indexes = indexes })
unfolding range_at
indexed_alike db indexes = record {
  ranges = λ key. ranged_alike (relation_at db key) (relation_at db key) (same_relation (relation_at db key)) (view_at db key)
      (catalogue_at db key) (catalogue_at (record db { indexes = indexes }) key) (catalogue_alike db db.relations indexes key);
  relations = λ key. refl;
}
