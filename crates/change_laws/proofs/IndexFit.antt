-- An index that is made.
use Rattle.std.proofs.Common.{◌≡◌, sym, ◌∙◌, ℕ, suc, ◌+◌, nat_le, nat_lt, Bool, true, false, ◌&&◌, not, IsTrue, List, map, ◌++◌, length, arith}
use Rattle.std.specs.Prelude.{◌↔◌}
use Rattle.std.specs.List.{list_all, AllByRecursion}
use Rattle.std.specs.Ordering.{is_eq}
use Rattle.std.proofs.lemmas.Bool.Decides.{nat_tests}
use Rattle.std.proofs.lemmas.List.{length-map, length-append}
use Rattle.calculus.specs.declared.query.RelKey.{RelKey}
use Rattle.calculus.specs.declared.schema.RelInfo.{RelInfo}
use Rattle.calculus.specs.declared.change.DbChange.TheVariants as change
use Rattle.calculus.specs.Keys.{key_of, same_key}
use Rattle.calculus.specs.Lists.{insert_by, is_any}
use Rattle.calculus.specs.Limits.{most_entries}
use Rattle.calculus.specs.Database.{Db, Index, entries, is_relation, is_there}
use Rattle.calculus.specs.Stored.{attrs_at}
use Rattle.calculus.specs.IsDatabase.{IsDatabase, key_is_named, keys_stand, valid_index}
use Rattle.calculus.specs.Change.{laid, index_info, names_what_is_there, adds_what_is_new, IsLawful}
use Rattle.quel_meaning.specs.Passing.{is_full}
use Rattle.change_laws.specs.Fit.{key_is_free, index_is_fit}
use Rattle.plan_laws.proofs.Kept.{both, each}
use Rattle.plan_laws.proofs.Indexes.{is_no, infos, all-map}
use Rattle.plan_laws.proofs.Created.{relation_is_ranged, each_true}
use Rattle.plan_laws.proofs.Alike.{indexes_stay}
use Rattle.plan_laws.proofs.Ranging.{indexed_alike}
use Rattle.plan_laws.proofs.Changed.{each_maps}
use Rattle.plan_laws.proofs.NewIndexes.{by_key, new-all, all-append, not_there, index_lawful}
use Rattle.plan_laws.proofs.Tests.{has_room, not_full}
use Rattle.change_laws.proofs.Inserted.{insert_passes, length_insert, never_equal}

pub index_fits_exactly : (db : Db) (base : RelKey) (name keys : List ℕ) → IsDatabase db → (index_is_fit db base name keys ≡ true) ↔ IsLawful db (change.Index base name keys)
unfolding index_is_fit key_is_free laid names_what_is_there adds_what_is_new
index_fits_exactly db base name keys is = (to, from)
  where
    key : RelKey
    key = key_of base.owner name

    to : index_is_fit db base name keys ≡ true → IsLawful db (change.Index base name keys)
    to t =
        let relation = both (is_relation db base) _ t in
        let some = both (is_any keys) _ relation.1 in
        let places = both (keys_stand (attrs_at db base) keys) _ some.1 in
        let named = both (key_is_named key) _ places.1 in
        let unused = both (not (is_there db key)) (not (is_full db)) named.1 in
        index_lawful db base name keys is (record {
          there = relation_is_ranged db base relation.0;
          some = some.0;
          places = places.0;
          named = named.0;
          unused = is_no (is_there db key) unused.0;
          room = has_room db unused.1;
        }) relation.0

    from : IsLawful db (change.Index base name keys) → index_is_fit db base name keys ≡ true
    from l = each _ _ l.names_are_there (each _ _ stands.0 (each _ _ stands.1 (each _ _ named (each _ _ l.additions_are_new (not_full db room)))))
      where
        new : Index
        new = record { info = index_info base name keys; base = base }

        indexes : List Index
        indexes = insert_by by_key new db.indexes

        later : Db
        later = record db { indexes = indexes }

        after : IsDatabase later
        after = l.leaves_a_database

        relations : List RelInfo
        relations = map (λ r. r.info) db.relations

        views : List RelInfo
        views = map (λ v. v.info) db.views

        its : (test : Index → Bool) → IsTrue (list_all test indexes) → IsTrue (test new)
        its test = insert_passes by_key test new db.indexes

        stands : IsTrue (is_any keys) × IsTrue (keys_stand (attrs_at db base) keys)
        stands =
            let own : IsTrue (valid_index db new) = its (valid_index db) (indexes_stay db later (indexed_alike db indexes) indexes ∙ after.indexes_stand) in
            both (is_any keys) (keys_stand (attrs_at db base) keys) (both (is_relation db base) (is_any keys && keys_stand (attrs_at db base) keys) own).1

        behind : (test : RelInfo → Bool) (last : List RelInfo) → IsTrue (list_all test (relations ++ (views ++ last))) → IsTrue (list_all test last)
        behind test last t =
            let rest = both (list_all test relations) (list_all test (views ++ last)) (sym (all-append test relations (views ++ last)) ∙ t) in
            (both (list_all test views) (list_all test last) (sym (all-append test views last) ∙ rest.1)).1

        named : IsTrue (key_is_named key)
        named = its (λ x. key_is_named x.info.key) (sym (all-map (λ i. key_is_named i.key) (λ x. x.info) indexes) ∙ behind (λ i. key_is_named i.key) (infos indexes) after.keys_are_named)

        unlike : AllByRecursion (λ x. is_eq (by_key new x) ≡ false) db.indexes
        unlike =
            let other : RelInfo → Bool = λ i. not (same_key key i.key) in
            let all = sym (new-all key (entries db)) ∙ not_there key (entries db) (is_no (is_there db key) l.additions_are_new) in
            each_maps _ _ db.indexes (each_true (λ x. not (same_key key x.info.key)) db.indexes (sym (all-map other (λ x. x.info) db.indexes) ∙ behind other (infos db.indexes) all))
            (λ x t. never_equal key x.info.key (is_no (same_key key x.info.key) t))

        number : (last : List RelInfo) → length (relations ++ (views ++ last)) ≡ length relations + (length views + length last)
        number last =
            let front = length-append relations (views ++ last) in
            let rest = length-append views last in
            omega (arith, front, rest)

        more : length (entries later) ≡ suc (length (entries db))
        more =
            let all_later = number (infos indexes) in
            let all_before = number (infos db.indexes) in
            let one = length_insert by_key new db.indexes unlike in
            let later_known = length-map indexes (λ x. x.info) in
            let before_known = length-map db.indexes (λ x. x.info) in
            omega (arith, all_later, all_before, one, later_known, before_known)

        less : (m n : ℕ) → m ≡ suc n → IsTrue (nat_le m most_entries) → IsTrue (nat_lt n most_entries)
        less m n e t = grind (arith, nat_tests, e, t)

        room : IsTrue (nat_lt (length (entries db)) most_entries)
        room = less (length (entries later)) (length (entries db)) more after.few_entries
