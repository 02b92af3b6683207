-- A relation that is stored in another structure.
use Rattle.std.proofs.Common.{◌≡◌, refl, ap, subst, ℕ, Bool, true, false, ◌&&◌, not, IsTrue, List, [], ◌∷◌, Some, filter, length, nat_lt, suc, arith}
use Rattle.std.specs.Prelude.{Ok}
use Rattle.std.specs.List.{list_all, AllByRecursion}
use Rattle.std.proofs.lemmas.Bool.Decides.{nat_tests}
use Rattle.calculus.specs.declared.query.RelKey.{RelKey}
use Rattle.calculus.specs.declared.schema.Attr.{Attr}
use Rattle.calculus.specs.declared.schema.Spec.{Spec}
use Rattle.calculus.specs.declared.request.Utility.TheVariants as utility
use Rattle.calculus.specs.declared.change.DbChange.{DbChange}
use Rattle.calculus.specs.declared.change.DbChange.TheVariants as change
use Rattle.calculus.specs.Keys.{same_key}
use Rattle.calculus.specs.Database.{Db, Relation, Index, relation_at, is_relation}
use Rattle.calculus.specs.IsDatabase.{IsDatabase, attrs_stand, keys_stand, valid_structure}
use Rattle.calculus.specs.Change.{laid, restructured, names_what_is_there, adds_what_is_new, lists_once, IsLawful}
use Rattle.quel_meaning.specs.Structures.{structure_keys, first_or_these}
use Rattle.quel_meaning.specs.Planned.{planned, plan_refusals, plan_change}
use Rattle.calculus.specs.Lists.{is_any}
use Rattle.calculus.specs.Structures.{is_structure, is_keyed}
use Rattle.plan_laws.specs.Fitting.{IsFitStructure}
use Rattle.plan_laws.proofs.Kept.{both, each}
use Rattle.plan_laws.proofs.Planned.{all_absent, not_refused, base_relation}
use Rattle.plan_laws.proofs.Changed.{ChangeStands, with_changed, owned, each_maps, for_each}
use Rattle.plan_laws.proofs.Indexes.{without_indexes}
use Rattle.plan_laws.proofs.RowsChanged.{its_attrs}

first_is_key : (x : Attr) (attrs : List Attr) → IsTrue (keys_stand (x ∷ attrs) (0 ∷ []))
first_is_key x attrs = ap (λ b. (b && true) && true) (some (length attrs))
  where
    some : (n : ℕ) → nat_lt 0 (suc n) ≡ true
    some n = grind (arith, nat_tests)

-- keys of attributes that stand make a structure that stands, the first attribute being the key where none is named
structure_lawful : (attrs : List Attr) (to : Spec) (keys : List ℕ) → IsTrue (is_structure to) → IsTrue (attrs_stand attrs) → IsTrue (keys_stand attrs keys)
    → (rel : RelKey) → IsTrue (valid_structure (record { key = rel; spec = to; attrs = attrs; keys = structure_keys to keys }))
structure_lawful attrs to keys structure stand places rel = go (is_keyed to)
  where
    keyed : (attrs : List Attr) (keys : List ℕ) → IsTrue (attrs_stand attrs) → IsTrue (keys_stand attrs keys) → IsTrue (is_any (first_or_these keys) && keys_stand attrs (first_or_these keys))
    keyed attrs (key ∷ keys) a k = k
    keyed [] [] a k = cc a
    keyed (x ∷ attrs) [] a k = first_is_key x attrs

    keys_of : Bool → List ℕ
    keys_of b = elim b [ true ↦ first_or_these keys | false ↦ [] ]

    go : (b : Bool) → IsTrue (elim b as (λ b. Bool) [ true ↦ is_any (keys_of b) && keys_stand attrs (keys_of b) | false ↦ is_structure to && not (is_any (keys_of b)) ])
    go true = keyed attrs keys stand places
    go false = each _ _ structure refl

both_each : {X : Type 0} (P Q : X → Type 0) (xs : List X) → AllByRecursion P xs → AllByRecursion Q xs → AllByRecursion (λ x. P x × Q x) xs
both_each P Q [] p q = tt
both_each P Q (x ∷ xs) p q = ((p.0, q.0), both_each P Q xs p.1 q.1)

as_each : (test : Relation → Bool) (rs : List Relation) → IsTrue (list_all test rs) → AllByRecursion (λ r. IsTrue (test r)) rs
as_each test [] t = tt
as_each test (r ∷ rs) t = let parts = both (test r) (list_all test rs) t in (parts.0, as_each test rs parts.1)

restructured_lawful : (db : Db) (rel : RelKey) (to : Spec) (keys : List ℕ) → IsDatabase db → IsFitStructure db rel to keys → is_relation db rel ≡ true
    → IsLawful db (change.Modify rel to (structure_keys to keys))
unfolding laid names_what_is_there adds_what_is_new lists_once
restructured_lawful db rel to keys is fit relation = record {
  names_are_there = relation;
  additions_are_new = refl;
  nothing_is_listed_twice = refl;
  leaves_a_database = with_changed unindexed rel change_it (record { key = λ r. refl; attrs = λ r. refl }) stands (without_indexes db elsewhere is);
}
  where
    elsewhere : Index → Bool
    elsewhere x = not (same_key x.base rel)

    unindexed : Db
    unindexed = record db { indexes = filter elsewhere db.indexes }

    change_it : Relation → Relation
    change_it = restructured to (structure_keys to keys)

    Owned : Relation → Type 0
    Owned r = same_key r.info.key rel ≡ true → relation_at db rel ≡ Some r

    Known : Relation → Type 0
    Known r = Owned r × IsTrue (attrs_stand r.info.attrs)

    known : AllByRecursion Known db.relations
    known = both_each Owned (λ r. IsTrue (attrs_stand r.info.attrs)) db.relations (owned rel db.relations is.relations_ascend)
        (as_each (λ r. attrs_stand r.info.attrs) db.relations is.relation_attrs_stand)

    restructure : (r : Relation) → Known r → same_key r.info.key rel ≡ true → IsTrue (valid_structure (change_it r).info)
    restructure r k e =
        structure_lawful r.info.attrs to keys fit.structure k.1 (subst (λ attrs. IsTrue (keys_stand attrs keys)) (its_attrs db rel r (k.0 e)) fit.places) r.info.key

    stands : ChangeStands unindexed rel change_it
    stands = record {
      structure = each_maps Known _ db.relations known (λ r k e t. restructure r k e);
      ascend = for_each _ db.relations (λ r e t. t);
      fit = for_each _ db.relations (λ r e t. t);
      few = for_each _ db.relations (λ r e t. t);
    }

pub structure_planned : (db : Db) (user : List ℕ) (rel : RelKey) (to : Spec) (keys : List ℕ) (made : DbChange) → IsDatabase db → IsFitStructure db rel to keys
    → planned db user (utility.Modify rel to keys) ≡ Ok made → IsLawful db made
unfolding plan_refusals plan_change
structure_planned db user rel to keys made is fit e =
    let plan = not_refused db user (utility.Modify rel to keys) made e in
    let absent = all_absent (plan_refusals db user (utility.Modify rel to keys)) plan.0 in
    subst (IsLawful db) plan.1 (restructured_lawful db rel to keys is fit (base_relation db rel fit.there absent.0 absent.1.0))
