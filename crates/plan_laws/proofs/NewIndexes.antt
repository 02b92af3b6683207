-- An index that is put beside those that stand.
use Rattle.std.proofs.Common.{◌≡◌, refl, sym, ap, ◌∙◌, subst, ℕ, suc, ◌≤◌, nat_le, nat_lt, Bool, true, false, ◌&&◌, ◌||◌, not, cond, IsTrue, List, [], ◌∷◌, ◌++◌, Some, map, length, arith, append_assoc}
use Rattle.std.specs.Prelude.{find, is_some, Ok}
use Rattle.std.specs.List.{list_all, list_any, AllByRecursion}
use Rattle.std.specs.List.Sorted.{IsStrictlySortedBy}
use Rattle.std.specs.Cmp.Lexicographic.{slice_cmp}
use Rattle.std.specs.FinMap.{nat_cmp-IsAntisymmetric, slice_cmp-IsAntisymmetric}
use Rattle.std.specs.Ordering.{nat_cmp, ordering_then}
use Rattle.std.specs.declared.cmp.Ordering.{Ordering}
use Rattle.std.specs.declared.cmp.Ordering.TheVariants.{Less, Equal, Greater}
use Rattle.std.proofs.lemmas.Bool.Decides.{nat_tests}
use Rattle.std.proofs.lemmas.Cmp.{on_total}
use Rattle.calculus.specs.declared.query.RelKey.{RelKey}
use Rattle.calculus.specs.declared.schema.RelInfo.{RelInfo}
use Rattle.calculus.specs.declared.request.Utility.TheVariants as utility
use Rattle.calculus.specs.declared.change.DbChange.{DbChange}
use Rattle.calculus.specs.declared.change.DbChange.TheVariants as change
use Rattle.calculus.specs.Keys.{key_of, same_key, key_cmp}
use Rattle.calculus.specs.Lists.{insert_by, differ_by}
use Rattle.calculus.specs.Limits.{most_entries}
use Rattle.calculus.specs.Database.{Db, Index, entries, is_relation, is_there}
use Rattle.calculus.specs.IsDatabase.{IsDatabase, key_is_named, valid_index}
use Rattle.calculus.specs.Change.{laid, index_info, names_what_is_there, adds_what_is_new, lists_once, IsLawful}
use Rattle.quel_meaning.specs.Planned.{planned, plan_refusals, plan_change}
use Rattle.quel_meaning.proofs.InOrder.{insert_as, insert-cons, in_order-insert}
use Rattle.plan_laws.specs.Fitting.{IsFitIndex}
use Rattle.plan_laws.proofs.Kept.{both, each, all_insert}
use Rattle.plan_laws.proofs.Orders.{key_total, same_key_is, same_key_itself}
use Rattle.plan_laws.proofs.Planned.{neither, all_absent, not_refused, base_relation}
use Rattle.plan_laws.proofs.Indexes.{IndexesStand, with_indexes, infos, keys, all-map, is_no}

-- the order of indexes by their keys
abbrev pub by_key : Index → Index → Ordering
by_key a b = key_cmp a.info.key b.info.key

-- ---- a test of all entries

pub all-append : {X : Type 0} (test : X → Bool) (xs ys : List X) → list_all test (xs ++ ys) ≡ (list_all test xs && list_all test ys)
all-append test [] ys = refl
all-append test (x ∷ xs) ys = ap (λ b. test x && b) (all-append test xs ys) ∙ sym (assoc (test x) (list_all test xs) (list_all test ys))
  where
    assoc : (a b c : Bool) → ((a && b) && c) ≡ (a && (b && c))
    assoc true b c = refl
    assoc false b c = refl

all_with : (test : RelInfo → Bool) (front : List RelInfo) (x : Index) (xs : List Index) → IsTrue (test x.info) → IsTrue (list_all test (front ++ infos xs)) → IsTrue (list_all test (front ++ infos (insert_by by_key x xs)))
all_with test front x xs s t =
    let parts = both (list_all test front) (list_all test (infos xs)) (sym (all-append test front (infos xs)) ∙ t) in
    all-append test front (infos (insert_by by_key x xs))
    ∙ each (list_all test front) (list_all test (infos (insert_by by_key x xs))) parts.0
    (all-map test (λ x. x.info) (insert_by by_key x xs) ∙ all_insert by_key (λ x. test x.info) x xs s (sym (all-map test (λ x. x.info) xs) ∙ parts.1))

-- ---- in order

mapped : (P : RelKey → Type 0) (xs : List Index) → AllByRecursion P (map (λ x. x.info.key) xs) → AllByRecursion (λ x. P x.info.key) xs
mapped P [] h = tt
mapped P (x ∷ xs) h = (h.0, mapped P xs h.1)

unmapped : (P : RelKey → Type 0) (xs : List Index) → AllByRecursion (λ x. P x.info.key) xs → AllByRecursion P (map (λ x. x.info.key) xs)
unmapped P [] h = tt
unmapped P (x ∷ xs) h = (h.0, unmapped P xs h.1)

sorted_mapped : (xs : List Index) → IsStrictlySortedBy key_cmp (map (λ x. x.info.key) xs) → IsStrictlySortedBy by_key xs
unfolding IsStrictlySortedBy
sorted_mapped [] h = tt
sorted_mapped (x ∷ xs) h = (mapped (λ k. key_cmp x.info.key k ≡ Less) xs h.0, sorted_mapped xs h.1)

sorted_unmapped : (xs : List Index) → IsStrictlySortedBy by_key xs → IsStrictlySortedBy key_cmp (map (λ x. x.info.key) xs)
unfolding IsStrictlySortedBy
sorted_unmapped [] h = tt
sorted_unmapped (x ∷ xs) h = (unmapped (λ k. key_cmp x.info.key k ≡ Less) xs h.0, sorted_unmapped xs h.1)

-- ---- the keys differ

-- the key is that of none of these
abbrev pub is_new : RelKey → List RelInfo → Bool
is_new key es = not (list_any (same_key key) (keys es))

pub new-all : (key : RelKey) (es : List RelInfo) → is_new key es ≡ list_all (λ i. not (same_key key i.key)) es
new-all key [] = refl
new-all key (i ∷ es) = go (same_key key i.key) ∙ ap (λ b. not (same_key key i.key) && b) (new-all key es)
  where
    go : (b : Bool) → not (b || list_any (same_key key) (keys es)) ≡ (not b && not (list_any (same_key key) (keys es)))
    go true = refl
    go false = refl

pub other_way : (a b : RelKey) → same_key a b ≡ false → same_key b a ≡ false
other_way a b h = go (same_key b a) refl
  where
    go : (t : Bool) → same_key b a ≡ t → t ≡ false
    go true e = let f : same_key a b ≡ true = ap (same_key a) (same_key_is b a e) ∙ same_key_itself a in cc (sym f ∙ h)
    go false e = refl

pub is_yes : (b : Bool) → b ≡ false → IsTrue (not b)
is_yes true h = cc h
is_yes false h = refl

-- an entry's key that is new to some is new to them with an index whose key is another
new_with : (key : RelKey) (front : List RelInfo) (x : Index) (xs : List Index) → same_key key x.info.key ≡ false → IsTrue (is_new key (front ++ infos xs))
    → IsTrue (is_new key (front ++ infos (insert_by by_key x xs)))
new_with key front x xs other new =
    new-all key (front ++ infos (insert_by by_key x xs))
    ∙ all_with (λ i. not (same_key key i.key)) front x xs (is_yes (same_key key x.info.key) other) (sym (new-all key (front ++ infos xs)) ∙ new)

pub key_exact : (a b : RelKey) → key_cmp a b ≡ Equal → same_key a b ≡ true
key_exact a b h =
    let parts = both_tied (slice_cmp nat_cmp a.owner b.owner) (slice_cmp nat_cmp a.name b.name) h in
    let owner : a.owner ≡ b.owner = slice_cmp-IsAntisymmetric nat_cmp-IsAntisymmetric a.owner b.owner parts.0 in
    let name : a.name ≡ b.name = slice_cmp-IsAntisymmetric nat_cmp-IsAntisymmetric a.name b.name parts.1 in
    let same : a ≡ b = λ i. record { owner = owner i; name = name i } in
    subst (λ k. same_key a k ≡ true) same (same_key_itself a)
  where
    both_tied : (o p : Ordering) → ordering_then o p ≡ Equal → (o ≡ Equal) × (p ≡ Equal)
    both_tied Less p h = cc h
    both_tied Equal p h = (refl, h)
    both_tied Greater p h = cc h

differ_with : (front : List RelInfo) (x : Index) (xs : List Index) → IsTrue (is_new x.info.key (front ++ infos xs)) → IsTrue (differ_by same_key (keys (front ++ infos xs)))
    → IsTrue (differ_by same_key (keys (front ++ infos (insert_by by_key x xs))))
differ_with (i ∷ front) x xs new t =
    let unlike = neither (same_key x.info.key i.key) (list_any (same_key x.info.key) (keys (front ++ infos xs))) (is_no _ new) in
    let parts = both (is_new i.key (front ++ infos xs)) (differ_by same_key (keys (front ++ infos xs))) t in
    each (is_new i.key (front ++ infos (insert_by by_key x xs))) (differ_by same_key (keys (front ++ infos (insert_by by_key x xs))))
    (new_with i.key front x xs (other_way x.info.key i.key unlike.0) parts.0) (differ_with front x xs (is_yes _ unlike.1) parts.1)
differ_with [] x [] new t = refl
differ_with [] x (y ∷ ys) new t =
    let unlike = neither (same_key x.info.key y.info.key) (list_any (same_key x.info.key) (keys (infos ys))) (is_no _ new) in
    let parts = both (is_new y.info.key (infos ys)) (differ_by same_key (keys (infos ys))) t in
    ap (λ xs. differ_by same_key (keys (infos xs))) (insert-cons by_key x y ys (by_key x y) refl)
    ∙ go (by_key x y) refl unlike.0 (new_with y.info.key [] x ys (other_way x.info.key y.info.key unlike.0) parts.0) (differ_with [] x ys (is_yes _ unlike.1) parts.1)
  where
    go : (o : Ordering) → by_key x y ≡ o → same_key x.info.key y.info.key ≡ false → IsTrue (is_new y.info.key (infos (insert_by by_key x ys))) → IsTrue (differ_by same_key (keys (infos (insert_by by_key x ys))))
        → IsTrue (differ_by same_key (keys (infos (insert_as o x y ys (insert_by by_key x ys)))))
    go Less e unlike first later = each (is_new x.info.key (infos (y ∷ ys))) (differ_by same_key (keys (infos (y ∷ ys)))) new t
    go Equal e unlike first later = let same : same_key x.info.key y.info.key ≡ true = key_exact x.info.key y.info.key e in cc (sym same ∙ unlike)
    go Greater e unlike first later = each (is_new y.info.key (infos (insert_by by_key x ys))) (differ_by same_key (keys (infos (insert_by by_key x ys)))) first later

-- what isn't there has a new key
pub not_there : (key : RelKey) (es : List RelInfo) → is_some (find (λ i. same_key i.key key) es) ≡ false → IsTrue (is_new key es)
not_there key [] h = refl
not_there key (i ∷ es) h = go (same_key i.key key) refl h (not_there key es)
  where
    go : (b : Bool) → same_key i.key key ≡ b → is_some (cond b (Some i) (find (λ i. same_key i.key key) es)) ≡ false → (is_some (find (λ i. same_key i.key key) es) ≡ false → IsTrue (is_new key es))
        → IsTrue (not (same_key key i.key || list_any (same_key key) (keys es)))
    go true e h later = cc h
    go false e h later = ap (λ b. not (b || list_any (same_key key) (keys es))) (other_way i.key key e) ∙ later h

-- ---- the number of entries

one_more : (front : List RelInfo) (x : Index) (xs : List Index) → length (front ++ infos (insert_by by_key x xs)) ≤ suc (length (front ++ infos xs))
one_more (i ∷ front) x xs = let h = one_more front x xs in omega (arith, h)
one_more [] x [] = omega arith
one_more [] x (y ∷ ys) =
    let step : length (infos (insert_by by_key x (y ∷ ys))) ≡ length (infos (insert_as (by_key x y) x y ys (insert_by by_key x ys))) = ap (λ xs. length (infos xs)) (insert-cons by_key x y ys (by_key x y) refl) in
    let bound = go (by_key x y) (one_more [] x ys) in
    omega (arith, step, bound)
  where
    go : (o : Ordering) → length (infos (insert_by by_key x ys)) ≤ suc (length (infos ys)) → length (infos (insert_as o x y ys (insert_by by_key x ys))) ≤ suc (suc (length (infos ys)))
    go Less later = omega arith
    go Equal later = omega arith
    go Greater later = omega (arith, later)

-- ---- the change

pub index_lawful : (db : Db) (base : RelKey) (name : List ℕ) (ks : List ℕ) → IsDatabase db → IsFitIndex db base name ks → is_relation db base ≡ true → IsLawful db (change.Index base name ks)
unfolding laid names_what_is_there adds_what_is_new lists_once
index_lawful db base name ks is fit relation = record {
  names_are_there = relation;
  additions_are_new = is_yes (is_there db (key_of base.owner name)) fit.unused;
  nothing_is_listed_twice = refl;
  leaves_a_database = with_indexes db later is stand;
}
  where
    new : Index
    new = record { info = index_info base name ks; base = base }

    later : List Index
    later = insert_by by_key new db.indexes

    front : List RelInfo
    front = map (λ r. r.info) db.relations ++ map (λ v. v.info) db.views

    together : (indexes : List Index) → front ++ infos indexes ≡ map (λ r. r.info) db.relations ++ (map (λ v. v.info) db.views ++ infos indexes)
    together indexes = append_assoc (map (λ r. r.info) db.relations) (map (λ v. v.info) db.views) (infos indexes)

    is_none : IsTrue (is_new new.info.key (front ++ infos db.indexes))
    is_none = subst (λ es. IsTrue (is_new new.info.key es)) (sym (together db.indexes)) (not_there new.info.key (entries db) fit.unused)

    room : (m n : ℕ) → m ≤ suc n → IsTrue (nat_lt n most_entries) → IsTrue (nat_le m most_entries)
    room m n le t = grind (arith, nat_tests, le, t)

    stand : IndexesStand db later
    stand = record {
      named = subst (λ es. IsTrue (list_all (λ i. key_is_named i.key) es)) (together later)
          (all_with (λ i. key_is_named i.key) front new db.indexes fit.named (subst (λ es. IsTrue (list_all (λ i. key_is_named i.key) es)) (sym (together db.indexes)) is.keys_are_named));
      ascend = sorted_unmapped later (in_order-insert (on_total (λ (x : Index). x.info.key) key_total) new db.indexes (sorted_mapped db.indexes is.indexes_ascend));
      differ = subst (λ es. IsTrue (differ_by same_key (keys es))) (together later)
          (differ_with front new db.indexes is_none (subst (λ es. IsTrue (differ_by same_key (keys es))) (sym (together db.indexes)) is.keys_differ));
      stand = all_insert by_key (valid_index db) new db.indexes (each _ _ relation (each true _ refl (each _ _ fit.some fit.places))) is.indexes_stand;
      few = subst (λ es. IsTrue (nat_le (length es) most_entries)) (together later)
          (room (length (front ++ infos later)) (length (front ++ infos db.indexes)) (one_more front new db.indexes)
          (subst (λ es. IsTrue (nat_lt (length es) most_entries)) (sym (together db.indexes)) fit.room));
    }

pub index_planned : (db : Db) (user : List ℕ) (base : RelKey) (name : List ℕ) (ks : List ℕ) (made : DbChange) → IsDatabase db → IsFitIndex db base name ks
    → planned db user (utility.Index base name ks) ≡ Ok made → IsLawful db made
unfolding plan_refusals plan_change
index_planned db user base name ks made is fit e =
    let plan = not_refused db user (utility.Index base name ks) made e in
    let absent = all_absent (plan_refusals db user (utility.Index base name ks)) plan.0 in
    subst (IsLawful db) plan.1 (index_lawful db base name ks is fit (base_relation db base fit.there absent.0 absent.1.0))
