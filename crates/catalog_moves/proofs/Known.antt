-- What is known of what stands under a key.
use Rattle.std.proofs.Common.{◌≡◌, refl, ap, ◌∙◌, Bool, true, false, cond, List, [], ◌∷◌, ◌++◌, map, Some, None, Option, option_map}
use Rattle.std.specs.List.{find}
use Rattle.calculus.specs.declared.query.RelKey.{RelKey}
use Rattle.calculus.specs.declared.schema.RelInfo.{RelInfo}
use Rattle.calculus.specs.Catalogue.{catalogue_at}
use Rattle.calculus.specs.Database.{Db, Relation, relation_at, entry_at}
use Rattle.calculus.specs.Keys.{same_key}
use Rattle.base_trait.specs.Known.{known_at}

-- what is found in front is found
pub find_front : {X : Type 0} (test : X → Bool) (xs ys : List X) (x : X) → find test xs ≡ Some x → find test (xs ++ ys) ≡ Some x
find_front test [] ys x e = cc e
find_front {X} test (y ∷ xs) ys x e = go (test y) e (find_front test xs ys x)
  where
    go : (b : Bool) → cond b (Some y) (find test xs) ≡ Some x → (find test xs ≡ Some x → find test (xs ++ ys) ≡ Some x) → cond b (Some y) (find test (xs ++ ys)) ≡ Some x
    go true e later = e
    go false e later = later e

pub find_map : {X Y : Type 0} (test : Y → Bool) (h : X → Y) (xs : List X) → find test (map h xs) ≡ option_map h (find (λ x. test (h x)) xs)
find_map test h [] = refl
find_map {X} {Y} test h (x ∷ xs) = go (test (h x)) (find_map test h xs)
  where
    go : (b : Bool) → find test (map h xs) ≡ option_map h (find (λ x. test (h x)) xs) → cond b (Some (h x)) (find test (map h xs)) ≡ option_map h (cond b (Some x) (find (λ x. test (h x)) xs))
    go true later = refl
    go false later = later

pub known_entry : (db : Db) (key : RelKey) (i : RelInfo) → entry_at db key ≡ Some i → known_at db key ≡ Some i
unfolding known_at
known_entry db key i e = ap (λ (o : Option RelInfo). elim o [ Some info ↦ Some info | None ↦ option_map (λ r. r.info) (catalogue_at db key) ]) e

pub known_relation : (db : Db) (key : RelKey) (r : Relation) → relation_at db key ≡ Some r → known_at db key ≡ Some r.info
known_relation db key r e =
    known_entry db key r.info
    (find_front (λ (i : RelInfo). same_key i.key key) (map (λ (r : Relation). r.info) db.relations) _ r.info
    (find_map (λ (i : RelInfo). same_key i.key key) (λ (r : Relation). r.info) db.relations ∙ ap (option_map (λ (r : Relation). r.info)) e))
