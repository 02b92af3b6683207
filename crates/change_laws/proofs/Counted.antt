-- How many rows stand once some have gone and others have come.
use Rattle.std.proofs.Common.{◌≡◌, refl, sym, ap, ◌∙◌, suc, ◌+◌, Bool, true, false, ◌&&◌, ◌||◌, not, cond, IsTrue, List, [], ◌∷◌, filter, length, arith}
use Rattle.std.specs.List.{list_all, list_any}
use Rattle.std.specs.Ordering.{eq_by_cmp, is_eq}
use Rattle.std.specs.declared.cmp.Ordering.{Ordering}
use Rattle.std.specs.declared.cmp.Ordering.TheVariants.{Less, Equal, Greater}
use Rattle.std.proofs.lemmas.Cmp.{eq_by_cmp_equiv}
use Rattle.std.proofs.lemmas.List.Kept.{IsStrictlySortedBy-filter}
use Rattle.std.proofs.lemmas.Map.Keys.{sorted_head, sorted_tail}
use Rattle.calculus.specs.Orders.{row_total, row_exact}
use Rattle.calculus.specs.Rows.{Row, Ascends, has, put}
use Rattle.calculus.specs.Value.{row_cmp}
use Rattle.calculus.specs.Replacement.{with_rows, without_rows}
use Rattle.calculus.specs.Change.{rows_differ}
use Rattle.calculus.proofs.Sets.{same_exact}
use Rattle.plan_laws.proofs.Kept.{both, each}
use Rattle.plan_laws.proofs.Planned.{neither}
use Rattle.plan_laws.proofs.Indexes.{is_no}
use Rattle.plan_laws.proofs.RowsChanged.{put_as, put_is, has-with_rows, has-filter, nothing_removed, smaller_is_none}

-- the two rows are the same
abbrev same : Row → Row → Bool
same = eq_by_cmp row_cmp

same_itself : (q : Row) → same q q ≡ true
same_itself q = (eq_by_cmp_equiv row_total).refl q

other_way : (q r : Row) → same q r ≡ false → same r q ≡ false
other_way q r h = go (same r q) refl
  where
    go : (b : Bool) → same r q ≡ b → b ≡ false
    go true e = let f : same q r ≡ true = ap (same q) (same_exact r q e) ∙ same_itself q in cc (sym f ∙ h)
    go false e = refl

-- ---- rows that come

pub length_put : (row : Row) (rows : List Row) → has rows row ≡ false → length (put row rows) ≡ suc (length rows)
length_put row [] h = refl
length_put row (first ∷ rest) h =
    let parts = neither (same row first) (has rest row) h in
    ap length (put_is row first rest (row_cmp row first) refl) ∙ go (row_cmp row first) parts.0 (length_put row rest parts.1)
  where
    go : (o : Ordering) → is_eq o ≡ false → length (put row rest) ≡ suc (length rest) → length (put_as o row first rest (put row rest)) ≡ suc (suc (length rest))
    go Less e later = refl
    go Equal e later = cc e
    go Greater e later = ap suc later

pub length_with : (add rows : List Row) → IsTrue (rows_differ add) → list_any (has rows) add ≡ false → length (with_rows add rows) ≡ length add + length rows
length_with [] rows d h = omega arith
length_with (row ∷ add) rows d h =
    let differ = both (not (has add row)) (rows_differ add) d in
    let new = neither (has rows row) (list_any (has rows) add) h in
    let put_one = length_put row (with_rows add rows) (has-with_rows add rows row ∙ (λ i. is_no (has add row) differ.0 i || new.0 i)) in
    let later = length_with add rows differ.1 new.1 in
    omega (arith, put_one, later)

-- ---- rows that go

-- the rows without one
abbrev less : Row → List Row → List Row
less r rows = filter (λ row. not (same row r)) rows

nothing_less : (r : Row) (rows : List Row) → has rows r ≡ false → less r rows ≡ rows
nothing_less r [] h = refl
nothing_less r (first ∷ rest) h =
    let parts = neither (same r first) (has rest r) h in
    ap (λ b. cond (not b) (first ∷ less r rest) (less r rest)) (other_way r first parts.0) ∙ ap (λ rows. first ∷ rows) (nothing_less r rest parts.1)

one_less : (r : Row) (rows : List Row) → Ascends rows → has rows r ≡ true → suc (length (less r rows)) ≡ length rows
one_less r [] a h = cc h
one_less r (first ∷ rest) a h = go (same r first) refl h (one_less r rest (sorted_tail row_cmp first rest a))
  where
    go : (b : Bool) → same r first ≡ b → (b || has rest r) ≡ true → (has rest r ≡ true → suc (length (less r rest)) ≡ length rest)
        → suc (length (cond (not (same first r)) (first ∷ less r rest) (less r rest))) ≡ suc (length rest)
    go true e h later =
        let one : r ≡ first = same_exact r first e in
        let gone : same first r ≡ true = ap (same first) one ∙ same_itself first in
        let none : has rest r ≡ false = ap (has rest) one ∙ smaller_is_none first rest (sorted_head row_cmp first rest a) in
        ap (λ b. suc (length (cond (not b) (first ∷ less r rest) (less r rest)))) gone ∙ ap (λ rows. suc (length rows)) (nothing_less r rest none)
    go false e h later = ap (λ b. suc (length (cond (not b) (first ∷ less r rest) (less r rest)))) (other_way r first e) ∙ ap suc (later h)

two_filters : {X : Type 0} (f g : X → Bool) (xs : List X) → filter (λ x. not (f x || g x)) xs ≡ filter (λ x. not (g x)) (filter (λ x. not (f x)) xs)
two_filters f g [] = refl
two_filters {X} f g (x ∷ xs) = go (f x) (two_filters f g xs)
  where
    go : (b : Bool) → filter (λ x. not (f x || g x)) xs ≡ filter (λ x. not (g x)) (filter (λ x. not (f x)) xs)
        → cond (not (b || g x)) (x ∷ filter (λ x. not (f x || g x)) xs) (filter (λ x. not (f x || g x)) xs)
        ≡ filter (λ x. not (g x)) (cond (not b) (x ∷ filter (λ x. not (f x)) xs) (filter (λ x. not (f x)) xs))
    go true later = later
    go false later = ap (cond (not (g x)) (x ∷ filter (λ x. not (f x || g x)) xs)) later ∙ ap (λ rows. cond (not (g x)) (x ∷ rows) (filter (λ x. not (g x)) (filter (λ x. not (f x)) xs))) later

still_there : (r : Row) (rows rs : List Row) → has rs r ≡ false → IsTrue (list_all (has rows) rs) → IsTrue (list_all (has (less r rows)) rs)
still_there r rows [] h t = refl
still_there r rows (q ∷ rs) h t =
    let parts = neither (same r q) (has rs r) h in
    let there = both (has rows q) (list_all (has rows) rs) t in
    each (has (less r rows) q) (list_all (has (less r rows)) rs)
    (has-filter (λ row. not (same row r)) rows q ∙ each (has rows q) (not (same q r)) there.0 (ap not (other_way r q parts.0))) (still_there r rows rs parts.1 there.1)

pub length_without : (remove rows : List Row) → Ascends rows → IsTrue (rows_differ remove) → IsTrue (list_all (has rows) remove)
    → length remove + length (without_rows remove rows) ≡ length rows
length_without [] rows a d t = let same_number : length (without_rows [] rows) ≡ length rows = ap length (nothing_removed rows) in omega (arith, same_number)
length_without (r ∷ remove) rows a d t =
    let differ = both (not (has remove r)) (rows_differ remove) d in
    let there = both (has rows r) (list_all (has rows) remove) t in
    let later = length_without remove (less r rows) (IsStrictlySortedBy-filter row_cmp (λ row. not (same row r)) rows a) differ.1 (still_there r rows remove (is_no (has remove r) differ.0) there.1) in
    let both_ways : length (without_rows (r ∷ remove) rows) ≡ length (without_rows remove (less r rows)) = ap length (two_filters (λ row. same row r) (has remove) rows) in
    let one = one_less r rows a there.0 in
    omega (arith, both_ways, later, one)

-- ---- what holds of all that stand then

pub all_of_put : (test : Row → Bool) (row : Row) (rows : List Row) → IsTrue (list_all test (put row rows)) → IsTrue (test row) × IsTrue (list_all test rows)
all_of_put test row [] t = both (test row) true t
all_of_put test row (first ∷ rest) t = go (row_cmp row first) refl (ap (list_all test) (sym (put_is row first rest (row_cmp row first) refl)) ∙ t) (all_of_put test row rest)
  where
    go : (o : Ordering) → row_cmp row first ≡ o → IsTrue (list_all test (put_as o row first rest (put row rest)))
        → (IsTrue (list_all test (put row rest)) → IsTrue (test row) × IsTrue (list_all test rest)) → IsTrue (test row) × IsTrue (test first && list_all test rest)
    go Less e t later = both (test row) (test first && list_all test rest) t
    go Equal e t later = let parts = both (test first) (list_all test rest) t in (ap test (row_exact row first e) ∙ parts.0, t)
    go Greater e t later =
        let parts = both (test first) (list_all test (put row rest)) t in
        let more = later parts.1 in
        (more.0, each (test first) (list_all test rest) parts.0 more.1)

pub all_that_come : (test : Row → Bool) (add rows : List Row) → IsTrue (list_all test (with_rows add rows)) → IsTrue (list_all test add)
all_that_come test [] rows t = refl
all_that_come test (row ∷ add) rows t =
    let parts = all_of_put test row (with_rows add rows) t in
    each (test row) (list_all test add) parts.0 (all_that_come test add rows parts.1)
