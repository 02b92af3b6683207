-- Rows that are listed once each, in whatever order, and the set of them.
use Rattle.std.proofs.Common.{◌≡◌, refl, sym, ap, subst, ◌∙◌, ℕ, suc, ◌<◌, ◌≤◌, ◌==◌, ◌&&◌, ◌||◌, not, cond, Bool, true, false, List, [], ◌∷◌, ◌++◌, filter, length, Some, arith}
use Rattle.std.specs.List.{list_any}
use Rattle.std.specs.List.Sorted.{IsPermutation}
use Rattle.std.specs.Ordering.{eq_by_cmp}
use Rattle.std.specs.declared.cmp.Ordering.{Ordering}
use Rattle.std.specs.declared.cmp.Ordering.TheVariants.{Less, Equal, Greater}
use Rattle.std.proofs.lemmas.Bool.Decides.{nat_tests}
use Rattle.std.proofs.lemmas.List.Folds.{list_any-append}
use Rattle.std.proofs.lemmas.List.Kept.{IsStrictlySortedBy-filter}
use Rattle.std.proofs.lemmas.List.Sorted.{list_any-IsPermutation, length_permutation}
use Rattle.am_traits.specs.Placed.{rows_differ}
use Rattle.calculus.specs.Lists.{insert_by}
use Rattle.calculus.specs.Orders.{row_exact}
use Rattle.calculus.specs.Replacement.{with_rows, without_rows}
use Rattle.calculus.specs.Rows.{Row, Ascends, has, put, set_of}
use Rattle.calculus.specs.Value.{row_cmp}
use Rattle.calculus.proofs.Placing.{put-there}
use Rattle.calculus.proofs.Sets.{Ascends-set_of, has-set_of, same_exact, same_set}
use Rattle.page_chain.specs.Lists.{when, in_order, once}
use Rattle.plan_laws.proofs.Kept.{both, each}
use Rattle.plan_laws.proofs.Planned.{neither}
use Rattle.plan_laws.proofs.RowsChanged.{put_as, put_is, has-with_rows, has-filter, Ascends-with_rows}
use Rattle.change_laws.proofs.Counted.{length_put}
use Rattle.quel_meaning.proofs.InOrder.{insert_as, insert-cons}

-- the two rows are the same
abbrev same : Row → Row → Bool
same = eq_by_cmp row_cmp

-- ---- the set of rows in their order

-- a row is put where it is inserted
put_inserted : (row : Row) (rows : List Row) → insert_by row_cmp row rows ≡ put row rows
put_inserted row [] = refl
put_inserted row (first ∷ rest) =
    insert-cons row_cmp row first rest (row_cmp row first) refl ∙ go (row_cmp row first) refl (put_inserted row rest) ∙ sym (put_is row first rest (row_cmp row first) refl)
  where
    go : (o : Ordering) → row_cmp row first ≡ o → insert_by row_cmp row rest ≡ put row rest → insert_as o row first rest (insert_by row_cmp row rest) ≡ put_as o row first rest (put row rest)
    go Less e later = refl
    go Equal e later = ap (λ r. r ∷ rest) (row_exact row first e)
    go Greater e later = ap (λ l. first ∷ l) later

in_order_set : (rows : List Row) → in_order row_cmp rows ≡ set_of rows
in_order_set [] = refl
in_order_set (row ∷ rows) = put_inserted row (in_order row_cmp rows) ∙ ap (put row) (in_order_set rows)

-- ---- as many as in their set

-- one that is there makes none more
none_more : (row : Row) (rows : List Row) → has rows row ≡ true → length (set_of (row ∷ rows)) ≡ length (set_of rows)
none_more row rows h = ap length (put-there row (set_of rows) (Ascends-set_of rows) (has-set_of rows row ∙ h))

one_more : (row : Row) (rows : List Row) → has rows row ≡ false → length (set_of (row ∷ rows)) ≡ suc (length (set_of rows))
one_more row rows h = length_put row (set_of rows) (has-set_of rows row ∙ h)

-- where rows differ each is in their set, else there are fewer
abbrev Counts : Bool → ℕ → ℕ → Type 0
Counts true few many = few ≡ many
Counts false few many = few < many

at_most : (d : Bool) (few many : ℕ) → Counts d few many → few ≤ many
at_most true few many h = omega (arith, h)
at_most false few many h = omega (arith, h)

counts : (rows : List Row) → Counts (rows_differ rows) (length (set_of rows)) (length rows)
counts [] = refl
counts (row ∷ rows) = go (has rows row) refl (rows_differ rows) (counts rows)
  where
    go : (b : Bool) → has rows row ≡ b → (d : Bool) → Counts d (length (set_of rows)) (length rows) → Counts (not b && d) (length (set_of (row ∷ rows))) (suc (length rows))
    go true e d later = let equal = none_more row rows e in let most = at_most d _ _ later in omega (arith, equal, most)
    go false e true later = one_more row rows e ∙ ap suc later
    go false e false later = let more = one_more row rows e in omega (arith, more, later)

as_many : (rows : List Row) → (length (set_of rows) == length rows) ≡ rows_differ rows
as_many rows = go (rows_differ rows) (length (set_of rows)) (length rows) (counts rows)
  where
    go : (d : Bool) (few many : ℕ) → Counts d few many → (few == many) ≡ d
    go true few many h = grind (arith, nat_tests, h)
    go false few many h = grind (arith, nat_tests, h)

-- they are listed once each where they differ, and then their set is this
pub once_rows : (rows : List Row) → once row_cmp rows ≡ when (rows_differ rows) (set_of rows)
once_rows rows = (λ i. when (length (in_order_set rows i) == length rows) (in_order_set rows i)) ∙ ap (λ b. when b (set_of rows)) (as_many rows)

pub once_differ : (rows set : List Row) → once row_cmp rows ≡ Some set → (rows_differ rows ≡ true) × (set_of rows ≡ set)
once_differ rows set h = go (rows_differ rows) refl (sym (once_rows rows) ∙ h)
  where
    the : {x y : List Row} → Some x ≡ Some y → x ≡ y
    the e = cc e

    go : (d : Bool) → rows_differ rows ≡ d → when d (set_of rows) ≡ Some set → (rows_differ rows ≡ true) × (set_of rows ≡ set)
    go true e h = (e, the h)
    go false e h = cc h

pub once_is : (rows : List Row) → rows_differ rows ≡ true → once row_cmp rows ≡ Some (set_of rows)
once_is rows d = once_rows rows ∙ ap (λ b. when b (set_of rows)) d

pub length_set : (rows : List Row) → rows_differ rows ≡ true → length (set_of rows) ≡ length rows
length_set rows d = go (rows_differ rows) d (counts rows)
  where
    go : (b : Bool) → b ≡ true → Counts b (length (set_of rows)) (length rows) → length (set_of rows) ≡ length rows
    go true e h = h
    go false e h = cc e

-- in any order
pub once_moved : (xs ys : List Row) → IsPermutation ys xs → once row_cmp ys ≡ once row_cmp xs
once_moved xs ys moved = λ i. when (length (in_turn i) == sym (length_permutation ys xs moved) i) (in_turn i)
  where
    sets : set_of ys ≡ set_of xs
    sets = same_set (set_of ys) (set_of xs) (Ascends-set_of ys) (Ascends-set_of xs) (λ q. has-set_of ys q ∙ list_any-IsPermutation (same q) ys xs moved ∙ sym (has-set_of xs q))

    in_turn : in_order row_cmp ys ≡ in_order row_cmp xs
    in_turn = in_order_set ys ∙ sets ∙ sym (in_order_set xs)

-- ---- rows that go and come

-- those that pass differ
differ_filter : (test : Row → Bool) (rows : List Row) → rows_differ rows ≡ true → rows_differ (filter test rows) ≡ true
differ_filter test [] d = refl
differ_filter test (row ∷ rows) d = go (test row) (both (not (has rows row)) (rows_differ rows) d) (differ_filter test rows)
  where
    none_passes : (b t : Bool) → not b ≡ true → not (b && t) ≡ true
    none_passes true t e = cc e
    none_passes false t e = refl

    go : (b : Bool) → (not (has rows row) ≡ true) × (rows_differ rows ≡ true) → (rows_differ rows ≡ true → rows_differ (filter test rows) ≡ true)
        → rows_differ (cond b (row ∷ filter test rows) (filter test rows)) ≡ true
    go true parts later = each _ _ (ap not (has-filter test rows row) ∙ none_passes (has rows row) (test row) parts.0) (later parts.1)
    go false parts later = later parts.1

-- of rows that are none of these, none is the first
apart : (row : Row) (rows others : List Row) → list_any (has (row ∷ rows)) others ≡ false → (has others row ≡ false) × (list_any (has rows) others ≡ false)
apart row rows [] h = (refl, refl)
apart row rows (other ∷ others) h =
    let parts = neither (same other row || has rows other) (list_any (has (row ∷ rows)) others) h in
    let own = neither (same other row) (has rows other) parts.0 in
    let later = apart row rows others parts.1 in
    ((λ i. turned (same row other) refl own.0 i || later.0 i), λ i. own.1 i || later.1 i)
  where
    turned : (b : Bool) → same row other ≡ b → same other row ≡ false → b ≡ false
    turned true e f = let one = same_exact row other e in cc (ap (λ r. same other r) one, ap (λ r. same r other) one, e, f)
    turned false e f = refl

differ_append : (rows others : List Row) → rows_differ rows ≡ true → rows_differ others ≡ true → list_any (has rows) others ≡ false → rows_differ (rows ++ others) ≡ true
differ_append [] others d e h = e
differ_append (row ∷ rows) others d e h =
    let parts = both (not (has rows row)) (rows_differ rows) d in
    let off = apart row rows others h in
    each (not (has (rows ++ others) row)) (rows_differ (rows ++ others))
    (ap not (list_any-append (same row) rows others) ∙ none (has rows row) (has others row) parts.0 off.0) (differ_append rows others parts.1 e off.1)
  where
    none : (a b : Bool) → not a ≡ true → b ≡ false → not (a || b) ≡ true
    none true b e f = cc e
    none false b e f = ap not f

-- what comes is none of what stays
none_stays : (test : Row → Bool) (rows set others : List Row) → ((q : Row) → has set q ≡ has rows q) → list_any (has set) others ≡ false → list_any (has (filter test rows)) others ≡ false
none_stays test rows set [] is h = refl
none_stays test rows set (other ∷ others) is h =
    let parts = neither (has set other) (list_any (has set) others) h in
    λ i. (has-filter test rows other ∙ ap (λ b. b && test other) (sym (is other) ∙ parts.0)) i || none_stays test rows set others is parts.1 i

-- the rows that stay and those that come, in any order, are the set afterwards
pub changed_set : (remove add rows now set : List Row) → once row_cmp rows ≡ Some set → rows_differ add ≡ true → list_any (has set) add ≡ false
    → IsPermutation now (without_rows remove rows ++ add) → once row_cmp now ≡ Some (with_rows add (without_rows remove set))
changed_set remove add rows now set is differ new moved = once_moved all now moved ∙ once_is all all_differ ∙ ap Some sets
  where
    kept : Row → Bool
    kept row = not (has remove row)

    all : List Row
    all = filter kept rows ++ add

    was : (rows_differ rows ≡ true) × (set_of rows ≡ set)
    was = once_differ rows set is

    same_rows : (q : Row) → has set q ≡ has rows q
    same_rows q = ap (λ s. has s q) (sym was.1) ∙ has-set_of rows q

    all_differ : rows_differ all ≡ true
    all_differ = differ_append (filter kept rows) add (differ_filter kept rows was.0) differ (none_stays kept rows set add same_rows new)

    turn : (a b : Bool) → (a || b) ≡ (b || a)
    turn true true = refl
    turn true false = refl
    turn false true = refl
    turn false false = refl

    sets : set_of all ≡ with_rows add (without_rows remove set)
    sets =
        same_set (set_of all) (with_rows add (without_rows remove set)) (Ascends-set_of all)
        (Ascends-with_rows add (without_rows remove set) (IsStrictlySortedBy-filter row_cmp kept set (ap_ascends was.1)))
        (λ q. has-set_of all q ∙ list_any-append (same q) (filter kept rows) add
        ∙ ap (λ b. b || has add q) (has-filter kept rows q ∙ ap (λ b. b && kept q) (sym (same_rows q)) ∙ sym (has-filter kept set q))
        ∙ turn (has (filter kept set) q) (has add q) ∙ sym (has-with_rows add (without_rows remove set) q))
      where
        ap_ascends : set_of rows ≡ set → Ascends set
        ap_ascends e = subst Ascends e (Ascends-set_of rows)
