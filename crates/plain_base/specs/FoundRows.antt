-- What holds of the rows under a key.
use Rattle.std.proofs.Common.{◌≡◌, refl, subst, Bool, true, false, cond, List, [], ◌∷◌, map, Option, Some, None}
use Rattle.std.proofs.lemmas.Option.{none-some, same_Some}
use Rattle.std.specs.List.{AllByRecursion, find, flat_map}
use Rattle.std.specs.Option.{option_map}
use Rattle.calculus.specs.declared.query.RelKey.{RelKey}
use Rattle.calculus.specs.Catalogue.{all_entries, relation_info, attribute_info, relation_row, attribute_rows, relation_key, attribute_key, catalogue_at}
use Rattle.calculus.specs.Database.{Db, Relation, View, relation_at, view_at}
use Rattle.calculus.specs.Keys.{same_key}
use Rattle.calculus.specs.Rows.{Row, set_of}
use Rattle.calculus.specs.Stored.{Kept, Viewed, kept_rows, range_at, rows_at}

-- what holds of each item holds of the one that is found
pub found_holds : {X : Type 0} (P : X → Type 0) (p : X → Bool) (xs : List X) → AllByRecursion P xs → (x : X) → find p xs ≡ Some x → P x
found_holds P p [] h x e = absurd (none-some x e)
found_holds {X} P p (y ∷ ys) h x e = go (p y) (found_holds P p ys h.1 x) e
  where
    go : (b : Bool) → (find p ys ≡ Some x → P x) → cond b (Some y) (find p ys) ≡ Some x → P x
    go true ih e = subst P (same_Some y x e) h.0
    go false ih e = ih e

-- what holds of the rows of each relation, of no rows and of those of the catalogues, holds of the rows under any key
pub under_key : (P : List Row → Type 0) (db : Db) (key : RelKey) → AllByRecursion (λ (r : Relation). P r.rows) db.relations → P []
    → P (set_of (map relation_row (all_entries db))) → P (set_of (flat_map attribute_rows (all_entries db))) → P (rows_at db key)
unfolding range_at catalogue_at
under_key P db key stored none first second =
    at_relation (relation_at db key) (found_holds (λ (r : Relation). P r.rows) (λ r. same_key r.info.key key) db.relations stored)
  where
    at_catalogue : (b c : Bool)
        → P (kept_rows (option_map Kept (elim b [
          | true ↦ Some (record { info = relation_info db; rows = set_of (map relation_row (all_entries db)) })
          | false ↦ elim c [ true ↦ Some (record { info = attribute_info db; rows = set_of (flat_map attribute_rows (all_entries db)) }) | false ↦ None ]
        ])))
    at_catalogue true c = first
    at_catalogue false true = second
    at_catalogue false false = none

    at_view : (o : Option View) → P (kept_rows (elim o [ Some view ↦ Some (Viewed view) | None ↦ option_map Kept (catalogue_at db key) ]))
    at_view (Some v) = none
    at_view None = at_catalogue (same_key key (relation_key db)) (same_key key (attribute_key db))

    at_relation : (o : Option Relation) → ((r : Relation) → o ≡ Some r → P r.rows)
        → P (kept_rows (elim o [
          | Some relation ↦ Some (Kept relation)
          | None ↦ elim (view_at db key) [ Some view ↦ Some (Viewed view) | None ↦ option_map Kept (catalogue_at db key) ]
        ]))
    at_relation (Some r) h = h r refl
    at_relation None h = at_view (view_at db key)
