-- What is destroyed is named by no view that stays.
use Rattle.std.proofs.Common.{◌≡◌, refl, sym, ap, ◌∙◌, Bool, true, false, ◌&&◌, ◌||◌, not, cond, IsTrue, List, [], ◌∷◌, Some, None, map, filter}
use Rattle.std.specs.Prelude.{◌↔◌, find, is_some}
use Rattle.std.specs.List.{list_all, list_any}
use Rattle.calculus.specs.declared.query.RelKey.{RelKey}
use Rattle.calculus.specs.declared.schema.RelInfo.{RelInfo}
use Rattle.calculus.specs.declared.change.DbChange.TheVariants as change
use Rattle.calculus.specs.Keys.{same_key, has_key}
use Rattle.calculus.specs.Lists.{differ_by}
use Rattle.calculus.specs.Database.{Db, View, Index, entries, is_there}
use Rattle.calculus.specs.Stored.{range_at}
use Rattle.calculus.specs.QueryParts.{vars_of}
use Rattle.calculus.specs.IsDatabase.{IsDatabase, key_is_named, vars_are_there}
use Rattle.calculus.specs.Change.{laid, names_what_is_there, lists_once, IsLawful}
use Rattle.quel_meaning.specs.Planned.{is_in_use}
use Rattle.change_laws.specs.Fit.{is_named_outside, destroying_is_fit}
use Rattle.plan_laws.proofs.Kept.{both, each}
use Rattle.plan_laws.proofs.Orders.{same_key_is}
use Rattle.plan_laws.proofs.Planned.{neither}
use Rattle.plan_laws.proofs.Indexes.{is_no, all-map}
use Rattle.plan_laws.proofs.NewNumbers.{all_imply}
use Rattle.plan_laws.proofs.NewIndexes.{all-append}
use Rattle.plan_laws.proofs.Created.{nothing_ranges}
use Rattle.plan_laws.proofs.Destroyed.{left, destroyed_lawful}
use Rattle.change_laws.proofs.Swapped.{any_and, any_swap, either_way}

-- ---- what has one of the keys

-- what each of some keys passes, one that is among them passes
among_passes : (test : RelKey → Bool) (key : RelKey) (rels : List RelKey) → has_key rels key ≡ true → IsTrue (list_all test rels) → IsTrue (test key)
among_passes test key [] h t = cc h
among_passes test key (rel ∷ rels) h t = go (same_key key rel) refl h (both (test rel) (list_all test rels) t) (among_passes test key rels)
  where
    go : (b : Bool) → same_key key rel ≡ b → (b || has_key rels key) ≡ true → IsTrue (test rel) × IsTrue (list_all test rels)
        → (has_key rels key ≡ true → IsTrue (list_all test rels) → IsTrue (test key)) → IsTrue (test key)
    go true e h parts later = ap test (same_key_is key rel e) ∙ parts.0
    go false e h parts later = later h parts.1

-- what each entry's key passes, a key that is there passes
there_passes : (test : RelKey → Bool) (key : RelKey) (es : List RelInfo) → is_some (find (λ i. same_key i.key key) es) ≡ true → IsTrue (list_all (λ i. test i.key) es) → IsTrue (test key)
there_passes test key [] h t = cc h
there_passes test key (i ∷ es) h t = go (same_key i.key key) refl h (both (test i.key) (list_all (λ i. test i.key) es) t) (there_passes test key es)
  where
    go : (b : Bool) → same_key i.key key ≡ b → is_some (cond b (Some i) (find (λ i. same_key i.key key) es)) ≡ true → IsTrue (test i.key) × IsTrue (list_all (λ i. test i.key) es)
        → (is_some (find (λ i. same_key i.key key) es) ≡ true → IsTrue (list_all (λ i. test i.key) es) → IsTrue (test key)) → IsTrue (test key)
    go true e h parts later = ap test (sym (same_key_is i.key key e)) ∙ parts.0
    go false e h parts later = later h parts.1

filtered_pass : {X : Type 0} (kept : X → Bool) (xs : List X) → IsTrue (list_all kept (filter kept xs))
filtered_pass kept [] = refl
filtered_pass {X} kept (x ∷ xs) = go (kept x) refl (filtered_pass kept xs)
  where
    go : (b : Bool) → kept x ≡ b → IsTrue (list_all kept (filter kept xs)) → IsTrue (list_all kept (cond b (x ∷ filter kept xs) (filter kept xs)))
    go true e later = each (kept x) (list_all kept (filter kept xs)) e later
    go false e later = later

-- no entry that is left has one of the keys
none_left : (db : Db) (rels : List RelKey) → IsTrue (list_all (λ i. not (has_key rels i.key)) (entries (left db rels)))
none_left db rels =
    all-append stays (map (λ r. r.info) later.relations) _
    ∙ each _ _ (all-map stays (λ r. r.info) later.relations ∙ filtered_pass (λ r. not (has_key rels r.info.key)) db.relations)
    (all-append stays (map (λ v. v.info) later.views) (map (λ x. x.info) later.indexes)
    ∙ each _ _ (all-map stays (λ v. v.info) later.views ∙ filtered_pass (λ v. not (has_key rels v.info.key)) db.views)
    (all-map stays (λ x. x.info) later.indexes
    ∙ all_imply (λ x. not (has_key rels x.info.key || has_key rels x.base)) (λ x. not (has_key rels x.info.key)) (λ x t. ap not (neither (has_key rels x.info.key) (has_key rels x.base) (is_no _ t)).0)
    later.indexes (filtered_pass (λ (x : Index). not (has_key rels x.info.key || has_key rels x.base)) db.indexes)))
  where
    later : Db
    later = left db rels

    stays : RelInfo → Bool
    stays i = not (has_key rels i.key)

-- ---- nothing stands under one of the keys

nothing_there : (db : Db) (rels : List RelKey) (key : RelKey) → has_key rels key ≡ true → is_there (left db rels) key ≡ false
nothing_there db rels key h = go (is_there (left db rels) key) refl
  where
    go : (b : Bool) → is_there (left db rels) key ≡ b → b ≡ false
    go true e =
        let stays : IsTrue (not (has_key rels key)) = there_passes (λ k. not (has_key rels k)) key (entries (left db rels)) e (none_left db rels) in
        let no : has_key rels key ≡ false = is_no (has_key rels key) stays in
        cc (sym h ∙ no)
    go false e = refl

nothing_is_left : (db : Db) (rels : List RelKey) (key : RelKey) → IsDatabase db → IsTrue (list_all (is_there db) rels) → has_key rels key ≡ true → range_at (left db rels) key ≡ None
nothing_is_left db rels key is there h =
    nothing_ranges (left db rels) key (there_passes key_is_named key (entries db) (among_passes (is_there db) key rels h there) is.keys_are_named) (nothing_there db rels key h)

-- what is there then has none of the keys
others_named : (db : Db) (rels keys : List RelKey) → IsDatabase db → IsTrue (list_all (is_there db) rels) → IsTrue (list_all (λ key. is_some (range_at (left db rels) key)) keys) → list_any (has_key rels) keys ≡ false
others_named db rels [] is there t = refl
others_named db rels (key ∷ keys) is there t =
    let parts = both (is_some (range_at (left db rels) key)) (list_all (λ key. is_some (range_at (left db rels) key)) keys) t in
    go (has_key rels key) refl parts.0 (others_named db rels keys is there parts.1)
  where
    go : (b : Bool) → has_key rels key ≡ b → IsTrue (is_some (range_at (left db rels) key)) → list_any (has_key rels) keys ≡ false → (b || list_any (has_key rels) keys) ≡ false
    go true e some later = let none : is_some (range_at (left db rels) key) ≡ false = ap is_some (nothing_is_left db rels key is there e) in cc (sym some ∙ none)
    go false e some later = later

none_in_use : (db : Db) (rels : List RelKey) (views : List View) → IsDatabase db → IsTrue (list_all (is_there db) rels)
    → IsTrue (list_all (λ v. vars_are_there (left db rels) v.query) (filter (λ v. not (has_key rels v.info.key)) views))
    → list_any (λ v. not (has_key rels v.info.key) && list_any (has_key rels) (vars_of v.query)) views ≡ false
none_in_use db rels [] is there t = refl
none_in_use db rels (v ∷ views) is there t = go (not (has_key rels v.info.key)) t (none_in_use db rels views is there)
  where
    stay : List View
    stay = filter (λ v. not (has_key rels v.info.key)) views

    go : (b : Bool) → IsTrue (list_all (λ v. vars_are_there (left db rels) v.query) (cond b (v ∷ stay) stay))
        → (IsTrue (list_all (λ v. vars_are_there (left db rels) v.query) stay) → list_any (λ v. not (has_key rels v.info.key) && list_any (has_key rels) (vars_of v.query)) views ≡ false)
        → ((b && list_any (has_key rels) (vars_of v.query)) || list_any (λ v. not (has_key rels v.info.key) && list_any (has_key rels) (vars_of v.query)) views) ≡ false
    go true t later =
        let parts = both (vars_are_there (left db rels) v.query) (list_all (λ v. vars_are_there (left db rels) v.query) stay) t in
        λ i. others_named db rels (vars_of v.query) is there parts.0 i || later parts.1 i
    go false t later = later t

-- ---- asked key by key

-- some view outside these names one of them, as it is asked of the views, where it is asked of each of them
in_use_by_key : (db : Db) (rels : List RelKey) → list_any (is_named_outside db rels) rels ≡ is_in_use db rels
unfolding is_named_outside
in_use_by_key db rels =
    any_swap (λ key v. not (has_key rels v.info.key) && has_key (vars_of v.query) key) rels db.views
    ∙ ap (λ (f : View → Bool). list_any f db.views) (λ i v. any_and (not (has_key rels v.info.key)) (λ key. has_key (vars_of v.query) key) rels i)
    ∙ ap (λ (f : View → Bool). list_any f db.views) (λ i v. not (has_key rels v.info.key) && any_swap same_key rels (vars_of v.query) i)
    ∙ ap (λ (same : RelKey → RelKey → Bool). list_any (λ v. not (has_key rels v.info.key) && list_any (λ k. list_any (λ key. same key k) rels) (vars_of v.query)) db.views) (λ i a b. either_way a b i)

-- ---- the test

pub destroying_fits_exactly : (db : Db) (rels : List RelKey) → IsDatabase db → (destroying_is_fit db rels ≡ true) ↔ IsLawful db (change.Destroy rels)
unfolding destroying_is_fit laid names_what_is_there lists_once
destroying_fits_exactly db rels is = (to, from)
  where
    to : destroying_is_fit db rels ≡ true → IsLawful db (change.Destroy rels)
    to t =
        let there = both (list_all (is_there db) rels) _ t in
        let differ = both (differ_by same_key rels) (not (list_any (is_named_outside db rels) rels)) there.1 in
        destroyed_lawful db rels is there.0 differ.0 (sym (in_use_by_key db rels) ∙ is_no (list_any (is_named_outside db rels) rels) differ.1)

    from : IsLawful db (change.Destroy rels) → destroying_is_fit db rels ≡ true
    from l = each _ _ l.names_are_there (each _ _ l.nothing_is_listed_twice (ap not (in_use_by_key db rels ∙ none_in_use db rels db.views is l.names_are_there l.leaves_a_database.views_name_what_is_there)))
