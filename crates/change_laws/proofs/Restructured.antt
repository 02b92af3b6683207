-- A relation that is stored in another structure.
use Rattle.std.proofs.Common.{◌≡◌, refl, sym, subst, ℕ, Bool, true, not, IsTrue, List, Some, filter}
use Rattle.std.specs.Prelude.{◌↔◌}
use Rattle.std.specs.List.{AllByRecursion}
use Rattle.calculus.specs.declared.query.RelKey.{RelKey}
use Rattle.calculus.specs.declared.schema.Attr.{Attr}
use Rattle.calculus.specs.declared.schema.Spec.{Spec}
use Rattle.calculus.specs.declared.change.DbChange.TheVariants as change
use Rattle.calculus.specs.Keys.{same_key}
use Rattle.calculus.specs.Database.{Db, Relation, Index, relation_at, is_relation}
use Rattle.calculus.specs.Stored.{attrs_at}
use Rattle.calculus.specs.IsDatabase.{IsDatabase, valid_structure}
use Rattle.calculus.specs.Change.{laid, restructured, names_what_is_there, adds_what_is_new, lists_once, IsLawful}
use Rattle.change_laws.specs.Fit.{structure_is_fit}
use Rattle.plan_laws.proofs.Kept.{both, each}
use Rattle.plan_laws.proofs.Changed.{ChangeStands, with_changed, owned, each_maps, for_each}
use Rattle.plan_laws.proofs.Indexes.{without_indexes}
use Rattle.plan_laws.proofs.RowsChanged.{its_attrs}
use Rattle.plan_laws.proofs.Tests.{there_is}
use Rattle.change_laws.proofs.RowsFit.{changed_passes}

-- a structure with these keys would be one for the attributes
abbrev stands_for : RelKey → Spec → List ℕ → List Attr → Bool
stands_for key to keys attrs = valid_structure (record { key = key; spec = to; attrs = attrs; keys = keys })

restructured_lawful : (db : Db) (rel : RelKey) (to : Spec) (keys : List ℕ) → IsDatabase db → is_relation db rel ≡ true → IsTrue (stands_for rel to keys (attrs_at db rel)) → IsLawful db (change.Modify rel to keys)
unfolding laid names_what_is_there adds_what_is_new lists_once
restructured_lawful db rel to keys is relation structure = record {
  names_are_there = relation;
  additions_are_new = refl;
  nothing_is_listed_twice = refl;
  leaves_a_database = with_changed unindexed rel change_it (record { key = λ r. refl; attrs = λ r. refl }) stands (without_indexes db elsewhere is);
}
  where
    elsewhere : Index → Bool
    elsewhere x = not (same_key x.base rel)

    unindexed : Db
    unindexed = record db { indexes = filter elsewhere db.indexes }

    change_it : Relation → Relation
    change_it = restructured to keys

    Owned : Relation → Type 0
    Owned r = same_key r.info.key rel ≡ true → relation_at db rel ≡ Some r

    own : AllByRecursion Owned db.relations
    own = owned rel db.relations is.relations_ascend

    stands : ChangeStands unindexed rel change_it
    stands = record {
      structure = each_maps Owned _ db.relations own (λ r o e t. subst (λ attrs. IsTrue (stands_for r.info.key to keys attrs)) (its_attrs db rel r (o e)) structure);
      ascend = for_each _ db.relations (λ r e t. t);
      fit = for_each _ db.relations (λ r e t. t);
      few = for_each _ db.relations (λ r e t. t);
    }

pub structure_fits_exactly : (db : Db) (rel : RelKey) (to : Spec) (keys : List ℕ) → IsDatabase db → (structure_is_fit db rel to keys ≡ true) ↔ IsLawful db (change.Modify rel to keys)
unfolding structure_is_fit laid names_what_is_there
structure_fits_exactly db rel to keys is = (onto, from)
  where
    onto : structure_is_fit db rel to keys ≡ true → IsLawful db (change.Modify rel to keys)
    onto t = let parts = both (is_relation db rel) (stands_for rel to keys (attrs_at db rel)) t in restructured_lawful db rel to keys is parts.0 parts.1

    from : IsLawful db (change.Modify rel to keys) → structure_is_fit db rel to keys ≡ true
    from l = there_is (relation_at db rel) l.names_are_there (λ relation found.
        each _ _ l.names_are_there (subst (λ attrs. IsTrue (stands_for rel to keys attrs)) (sym (its_attrs db rel relation found))
        (changed_passes rel (restructured to keys) (λ r. valid_structure r.info) db.relations relation found l.leaves_a_database.structures_stand)))
