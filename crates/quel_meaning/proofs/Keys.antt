-- What stands under a key has that key.
use Rattle.std.proofs.Common.{◌≡◌, refl, sym, ap, ◌∙◌, subst, ℕ, Bool, true, false, cond, List, [], ◌∷◌, map, Option, Some, None}
use Rattle.std.specs.List.{find, flat_map}
use Rattle.std.specs.Option.{option_map}
use Rattle.std.specs.Str.{bytes_eq}
use Rattle.std.proofs.lemmas.Slice.Eq.{bytes_eq-Decides}
use Rattle.calculus.specs.declared.query.RelKey.{RelKey}
use Rattle.calculus.specs.declared.schema.RelInfo.{RelInfo}
use Rattle.calculus.specs.Keys.{same_key}
use Rattle.calculus.specs.Database.{Db, Relation, View, relation_at, view_at}
use Rattle.calculus.specs.Catalogue.{catalogue_at, relation_key, attribute_key, relation_info, attribute_info, relation_row, attribute_rows, all_entries}
use Rattle.calculus.specs.Rows.{set_of}
use Rattle.calculus.specs.Stored.{Range, Kept, Viewed, range_at, range_info, info_at}
use Rattle.quel_meaning.proofs.Each.{left, right}

pub find_passes : {X : Type 0} (p : X → Bool) (xs : List X) (x : X) → find p xs ≡ Some x → p x ≡ true
find_passes p [] x h = absurd (cc h)
find_passes p (y ∷ ys) x h = go (find_passes p ys x) (p y) refl h
  where
    go : (find p ys ≡ Some x → p x ≡ true) → (b : Bool) → p y ≡ b → cond b (Some y) (find p ys) ≡ Some x → p x ≡ true
    go later true e h = let same : y ≡ x = cc h in subst (λ z. p z ≡ true) same e
    go later false e h = later h

pub same_bytes : (a b : List ℕ) → bytes_eq a b ≡ true → a ≡ b
same_bytes a b h = (bytes_eq-Decides a b).0 h

pub bytes_same : (a b : List ℕ) → a ≡ b → bytes_eq a b ≡ true
bytes_same a b h = (bytes_eq-Decides a b).1 h

pub same_keys : (a b : RelKey) → same_key a b ≡ true → a ≡ b
same_keys a b h =
    λ i. record { owner = same_bytes a.owner b.owner (left _ _ h) i; name = same_bytes a.name b.name (right _ _ h) i }

pub keys_same : (a b : RelKey) → a ≡ b → same_key a b ≡ true
keys_same a b h = rw (bytes_same a.owner b.owner (ap (λ (k : RelKey). k.owner) h)) (bytes_same a.name b.name (ap (λ (k : RelKey). k.name) h))

-- ---- what is found under a key

relation_key_is : (db : Db) (key : RelKey) (r : Relation) → relation_at db key ≡ Some r → r.info.key ≡ key
relation_key_is db key r h = same_keys r.info.key key (find_passes (λ (x : Relation). same_key x.info.key key) db.relations r h)

pub view_key_is : (db : Db) (key : RelKey) (v : View) → view_at db key ≡ Some v → v.info.key ≡ key
view_key_is db key v h = same_keys v.info.key key (find_passes (λ (x : View). same_key x.info.key key) db.views v h)

catalogue_key_is : (db : Db) (key : RelKey) (r : Relation) → catalogue_at db key ≡ Some r → r.info.key ≡ key
unfolding catalogue_at
catalogue_key_is db key r h = first (same_key key (relation_key db)) refl h
  where
    second : (b : Bool) → same_key key (attribute_key db) ≡ b
        → ◌≡◌ {A = Option Relation} (elim b [ true ↦ Some (record { info = attribute_info db; rows = set_of (flat_map attribute_rows (all_entries db)) }) | false ↦ None ]) (Some r) → r.info.key ≡ key
    second true e k = let same : record { info = attribute_info db; rows = set_of (flat_map attribute_rows (all_entries db)) } ≡ r = cc k in sym (ap (λ (x : Relation). x.info.key) same) ∙ sym (same_keys key (attribute_key db) e)
    second false e k = absurd (cc k)

    first : (b : Bool) → same_key key (relation_key db) ≡ b
        → ◌≡◌ {A = Option Relation} (elim b [
          | true ↦ Some (record { info = relation_info db; rows = set_of (map relation_row (all_entries db)) })
          | false ↦ elim (same_key key (attribute_key db)) [ true ↦ Some (record { info = attribute_info db; rows = set_of (flat_map attribute_rows (all_entries db)) }) | false ↦ None ]
        ]) (Some r) → r.info.key ≡ key
    first true e k =
        let same : record { info = relation_info db; rows = set_of (map relation_row (all_entries db)) } ≡ r = cc k in
        sym (ap (λ (x : Relation). x.info.key) same) ∙ sym (same_keys key (relation_key db) e)
    first false e k = second (same_key key (attribute_key db)) refl k

range_key_is : (db : Db) (key : RelKey) (r : Range) → range_at db key ≡ Some r → (range_info r).key ≡ key
unfolding range_at
range_key_is db key r h = at_relation (relation_at db key) refl h
  where
    at_catalogue : (c : Option Relation) → catalogue_at db key ≡ c → option_map Kept c ≡ Some r → (range_info r).key ≡ key
    at_catalogue None e k = absurd (cc k)
    at_catalogue (Some relation) e k =
        let same : Kept relation ≡ r = cc k in subst (λ x. (range_info x).key ≡ key) same (catalogue_key_is db key relation e)

    at_view : (v : Option View) → view_at db key ≡ v → ◌≡◌ {A = Option Range} (elim v [ Some view ↦ Some (Viewed view) | None ↦ option_map Kept (catalogue_at db key) ]) (Some r)
        → (range_info r).key ≡ key
    at_view None e k = at_catalogue (catalogue_at db key) refl k
    at_view (Some view) e k = let same : Viewed view ≡ r = cc k in subst (λ x. (range_info x).key ≡ key) same (view_key_is db key view e)

    at_relation : (o : Option Relation) → relation_at db key ≡ o
        → ◌≡◌ {A = Option Range} (elim o [
          | Some relation ↦ Some (Kept relation)
          | None ↦ elim (view_at db key) [ Some view ↦ Some (Viewed view) | None ↦ option_map Kept (catalogue_at db key) ]
        ]) (Some r) → (range_info r).key ≡ key
    at_relation None e k = at_view (view_at db key) refl k
    at_relation (Some relation) e k = let same : Kept relation ≡ r = cc k in subst (λ x. (range_info x).key ≡ key) same (relation_key_is db key relation e)

-- what is found under a key has that key
pub info_key_is : (db : Db) (key : RelKey) (info : RelInfo) → info_at db key ≡ Some info → info.key ≡ key
unfolding info_at
info_key_is db key info h = go (range_at db key) refl h
  where
    go : (o : Option Range) → range_at db key ≡ o → option_map range_info o ≡ Some info → info.key ≡ key
    go None e k = absurd (cc k)
    go (Some r) e k = let same : range_info r ≡ info = cc k in ap (λ (i : RelInfo). i.key) (sym same) ∙ range_key_is db key r e

-- what is found under a key is found under its own
pub found_again : (db : Db) (key : RelKey) (info : RelInfo) → info_at db key ≡ Some info → info_at db info.key ≡ Some info
found_again db key info h = ap (info_at db) (info_key_is db key info h) ∙ h
