-- The test tells what is a database.
use Rattle.std.proofs.Common.{◌≡◌, ◌↔◌, refl, sym, ap, true≢false, List, [], ◌∷◌, rules}
use Rattle.std.specs.Prelude.{true}
use Rattle.std.specs.List.{AllByRecursion, list_all}
use Rattle.std.specs.List.Sorted.{IsStrictlySortedBy}
use Rattle.std.specs.Ordering.{is_lt}
use Rattle.std.specs.declared.cmp.Ordering.{Ordering}
use Rattle.std.specs.declared.cmp.Ordering.TheVariants.{Less, Equal, Greater}
use Rattle.std.proofs.lemmas.Bool.{and_parts, and_from}
use Rattle.calculus.specs.Database.{Db, Relation}
use Rattle.calculus.specs.Value.{row_cmp}
use Rattle.calculus.specs.Rows.{Ascends}
use Rattle.calculus.specs.IsDatabase.{IsDatabase}
use Rattle.stored_database.specs.IsOne.{ascends, is_database}

-- ---- order

less-is_lt : (o : Ordering) → is_lt o ≡ true → o ≡ Less
less-is_lt Less e = refl
less-is_lt Equal e = absurd (true≢false (sym e))
less-is_lt Greater e = absurd (true≢false (sym e))

all_less : {A : Type 0} (cmp : A → A → Ordering) (x : A) (xs : List A) → list_all (λ y. is_lt (cmp x y)) xs ≡ true → AllByRecursion (λ y. cmp x y ≡ Less) xs
all_less cmp x [] e = tt
all_less cmp x (y ∷ ys) e = let both = and_parts (is_lt (cmp x y)) (list_all (λ y. is_lt (cmp x y)) ys) e in (less-is_lt (cmp x y) both.0, all_less cmp x ys both.1)

are_less : {A : Type 0} (cmp : A → A → Ordering) (x : A) (xs : List A) → AllByRecursion (λ y. cmp x y ≡ Less) xs → list_all (λ y. is_lt (cmp x y)) xs ≡ true
are_less cmp x [] all = refl
are_less cmp x (y ∷ ys) all = and_from (is_lt (cmp x y)) (list_all (λ y. is_lt (cmp x y)) ys) (ap is_lt all.0) (are_less cmp x ys all.1)

-- what passes the test is sorted strictly
pub sorted_from_ascends : {A : Type 0} (cmp : A → A → Ordering) (xs : List A) → ascends cmp xs ≡ true → IsStrictlySortedBy cmp xs
unfolding IsStrictlySortedBy
sorted_from_ascends cmp [] e = tt
sorted_from_ascends cmp (x ∷ xs) e = let both = and_parts (list_all (λ y. is_lt (cmp x y)) xs) (ascends cmp xs) e in (all_less cmp x xs both.0, sorted_from_ascends cmp xs both.1)

-- what is sorted strictly passes the test
pub ascends_from_sorted : {A : Type 0} (cmp : A → A → Ordering) (xs : List A) → IsStrictlySortedBy cmp xs → ascends cmp xs ≡ true
unfolding IsStrictlySortedBy
ascends_from_sorted cmp [] sorted = refl
ascends_from_sorted cmp (x ∷ xs) sorted = and_from (list_all (λ y. is_lt (cmp x y)) xs) (ascends cmp xs) (are_less cmp x xs sorted.0) (ascends_from_sorted cmp xs sorted.1)

rows_sorted : (rs : List Relation) → list_all (λ r. ascends row_cmp r.rows) rs ≡ true → AllByRecursion (λ r. Ascends r.rows) rs
rows_sorted [] e = tt
rows_sorted (r ∷ rs) e = let both = and_parts (ascends row_cmp r.rows) (list_all (λ r. ascends row_cmp r.rows) rs) e in (sorted_from_ascends row_cmp r.rows both.0, rows_sorted rs both.1)

rows_ascending : (rs : List Relation) → AllByRecursion (λ r. Ascends r.rows) rs → list_all (λ r. ascends row_cmp r.rows) rs ≡ true
rows_ascending [] all = refl
rows_ascending (r ∷ rs) all = and_from (ascends row_cmp r.rows) (list_all (λ r. ascends row_cmp r.rows) rs) (ascends_from_sorted row_cmp r.rows all.0) (rows_ascending rs all.1)

-- ---- the facts

is_one : (db : Db) → is_database db ≡ true → IsDatabase db
unfolding is_database
is_one db e =
    let a = and_parts _ _ e in
    let b = and_parts _ _ a.1 in
    let c = and_parts _ _ b.1 in
    let d = and_parts _ _ c.1 in
    let f = and_parts _ _ d.1 in
    let g = and_parts _ _ f.1 in
    let h = and_parts _ _ g.1 in
    let i = and_parts _ _ h.1 in
    let n = and_parts _ _ a.0 in
    let o0 = and_parts _ _ b.0 in
    let o1 = and_parts _ _ o0.1 in
    let o2 = and_parts _ _ o1.1 in
    let o3 = and_parts _ _ o2.1 in
    let o4 = and_parts _ _ o3.1 in
    let r0 = and_parts _ _ c.0 in
    let r1 = and_parts _ _ r0.1 in
    let r2 = and_parts _ _ r1.1 in
    let r3 = and_parts _ _ r2.1 in
    let r4 = and_parts _ _ r3.1 in
    let v0 = and_parts _ _ d.0 in
    let v1 = and_parts _ _ v0.1 in
    let v2 = and_parts _ _ v1.1 in
    let v3 = and_parts _ _ v2.1 in
    let v4 = and_parts _ _ v3.1 in
    let p = and_parts _ _ f.0 in
    let s0 = and_parts _ _ g.0 in
    let s1 = and_parts _ _ s0.1 in
    let s2 = and_parts _ _ s1.1 in
    let l0 = and_parts _ _ h.0 in
    let l1 = and_parts _ _ l0.1 in
    let l2 = and_parts _ _ l1.1 in
    let l3 = and_parts _ _ l2.1 in
    let l4 = and_parts _ _ l3.1 in
    let w0 = and_parts _ _ i.0 in
    let w1 = and_parts _ _ w0.1 in
    let w2 = and_parts _ _ w1.1 in
    record {
      dba_is_named = n.0;
      keys_are_named = n.1;
      relations_ascend = sorted_from_ascends _ _ o0.0;
      indexes_ascend = sorted_from_ascends _ _ o1.0;
      views_ascend = sorted_from_ascends _ _ o2.0;
      rules_ascend = sorted_from_ascends _ _ o3.0;
      permits_ascend = sorted_from_ascends _ _ o4.0;
      keys_differ = o4.1;
      structures_stand = r0.0;
      relation_attrs_stand = r1.0;
      relations_are_stored = r2.0;
      rows_ascend = rows_sorted db.relations r3.0;
      rows_fit = r4.0;
      indexes_stand = r4.1;
      view_infos_stand = v0.0;
      view_attrs_stand = v1.0;
      view_attrs_are_targets = v2.0;
      views_name_what_is_there = v3.0;
      views_have_levels = v4.0;
      view_queries_stand = v4.1;
      rules_stand = p.0;
      permits_stand = p.1;
      storable_views = s0.0;
      storable_rules = s1.0;
      storable_permits = s2.0;
      storable_lists = s2.1;
      few_entries = l0.0;
      few_rows = l1.0;
      few_rules = l2.0;
      few_permits = l3.0;
      small_rule_numbers = l4.0;
      small_permit_numbers = l4.1;
      few_listed_variables = w0.0;
      few_variables = w1.0;
      few_expanded_variables = w2.0;
      small_views = w2.1;
    }

is_found : (db : Db) → IsDatabase db → is_database db ≡ true
unfolding is_database
is_found db d = search (rules, and_from, ascends_from_sorted, rows_ascending, d)

pub the_test_decides : (db : Db) → (is_database db ≡ true) ↔ IsDatabase db
the_test_decides db = (is_one db, is_found db)
