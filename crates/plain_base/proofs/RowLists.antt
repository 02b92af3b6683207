-- Rows that go from ascending rows and come to them.
use Rattle.std.proofs.Common.{◌≡◌, refl, sym, ap, ◌∙◌, subst, ℕ, zero, suc, ◌+◌, ◌<◌, Bool, true, false, ◌||◌, ◌&&◌, not, List, [], ◌∷◌, ◌++◌, length, take, filter, slice_index_or, Result, Ok, Err, IfOk, IsOk, is_ok, cond, rules, arith, get_or}
use Rattle.std.proofs.lemmas.List.Folds.{list_any-append, list_any_more}
use Rattle.std.proofs.lemmas.List.Kept.{IsStrictlySortedBy-filter}
use Rattle.std.proofs.lemmas.Map.Keys.{sorted_head, sorted_tail, Less-from_sorted}
use Rattle.std.specs.List.{AllByRecursion, HoldsAt, remove}
use Rattle.std.specs.List.Sorted.{IsBinarySearchResult, IsSearchInRange}
use Rattle.std.specs.Ordering.{eq_by_cmp, is_eq, ordering_reverse}
use Rattle.std.specs.declared.cmp.Ordering.{Ordering}
use Rattle.std.specs.declared.cmp.Ordering.TheVariants.{Less, Equal, Greater}
use Rattle.calculus.specs.Orders.{row_total, row_exact}
use Rattle.calculus.specs.Replacement.{with_rows, without_rows}
use Rattle.calculus.specs.Rows.{Row, Ascends, has, put, set_of}
use Rattle.calculus.specs.Value.{row_cmp}
use Rattle.calculus.proofs.Sets.{same_set, has-put, has-set_of, Ascends-put, Ascends-set_of}

pub Ascends-with_rows : (others rows : List Row) → Ascends rows → Ascends (with_rows others rows)
Ascends-with_rows [] rows h = h
Ascends-with_rows (row ∷ others) rows h = Ascends-put row (with_rows others rows) (Ascends-with_rows others rows h)

or_assoc : (a b c : Bool) → (a || (b || c)) ≡ ((a || b) || c)
or_assoc true b c = refl
or_assoc false b c = refl

or_turn : (a b : Bool) → (a || b) ≡ (b || a)
or_turn true true = refl
or_turn true false = refl
or_turn false true = refl
or_turn false false = refl

pub has-with_rows : (others rows : List Row) (q : Row) → has (with_rows others rows) q ≡ (has others q || has rows q)
has-with_rows [] rows q = refl
has-with_rows (row ∷ others) rows q =
    has-put row (with_rows others rows) q ∙ ap (λ b. eq_by_cmp row_cmp q row || b) (has-with_rows others rows q)
    ∙ or_assoc (eq_by_cmp row_cmp q row) (has others q) (has rows q)

pub Ascends-without : (gone rows : List Row) → Ascends rows → Ascends (without_rows gone rows)
Ascends-without gone rows h = IsStrictlySortedBy-filter row_cmp (λ row. not (has gone row)) rows h

-- the rows together, sorted and without repeats, are those with the others
pub set_of-joined : (rows others : List Row) → Ascends rows → set_of (rows ++ others) ≡ with_rows others rows
set_of-joined rows others h =
    same_set (set_of (rows ++ others)) (with_rows others rows) (Ascends-set_of (rows ++ others)) (Ascends-with_rows others rows h)
    (λ q. has-set_of (rows ++ others) q ∙ list_any-append (eq_by_cmp row_cmp q) rows others ∙ or_turn (has rows q) (has others q)
    ∙ sym (has-with_rows others rows q))

-- a test that answers alike keeps the same
pub filter_alike : (f g : Row → Bool) → ((q : Row) → f q ≡ g q) → (rows : List Row) → filter f rows ≡ filter g rows
filter_alike f g h [] = refl
filter_alike f g h (row ∷ rows) = go (f row) (g row) (h row) (filter_alike f g h rows)
  where
    go : (b c : Bool) → b ≡ c → filter f rows ≡ filter g rows → cond b (row ∷ filter f rows) (filter f rows) ≡ cond c (row ∷ filter g rows) (filter g rows)
    go true true e ih = ap (λ rows. row ∷ rows) ih
    go true false e ih = cc e
    go false true e ih = cc e
    go false false e ih = ih

-- without the set of some rows is without the rows
pub without_set : (gone rows : List Row) → without_rows (set_of gone) rows ≡ without_rows gone rows
without_set gone rows = filter_alike _ _ (λ q. ap not (has-set_of gone q)) rows

-- two tests one behind the other
pub filter_both : (f g h : Row → Bool) → ((q : Row) → h q ≡ (f q && g q)) → (rows : List Row) → filter g (filter f rows) ≡ filter h rows
filter_both f g h e [] = refl
filter_both f g h e (row ∷ rows) = go (f row) (g row) (h row) refl (e row) (filter_both f g h e rows)
  where
    go : (b c d : Bool) → g row ≡ c → d ≡ (b && c) → filter g (filter f rows) ≡ filter h rows
        → filter g (cond b (row ∷ filter f rows) (filter f rows)) ≡ cond d (row ∷ filter h rows) (filter h rows)
    go true true d gc de ih = rw (gc, de) (ap (λ rows. row ∷ rows) ih)
    go true false d gc de ih = rw (gc, de) ih
    go false c d gc de ih = rw de ih

no_more : (a b : Bool) → not (a || b) ≡ (not a && not (b || false))
no_more true b = refl
no_more false true = refl
no_more false false = refl

-- without one row more
pub without_more : (gone rows : List Row) (i : ℕ) (d : Row) → i < length gone
    → without_rows (slice_index_or gone i d ∷ []) (without_rows (take i gone) rows) ≡ without_rows (take (i + 1) gone) rows
without_more gone rows i d h =
    filter_both _ _ _
    (λ q. ap not (list_any_more (eq_by_cmp row_cmp q) gone i d h) ∙ no_more (has (take i gone) q) (eq_by_cmp row_cmp q (get_or gone i d))) rows

-- rows above a row stay without it
above_stay : (row : Row) (rows : List Row) → AllByRecursion (λ other. row_cmp row other ≡ Less) rows → without_rows (row ∷ []) rows ≡ rows
above_stay row [] h = refl
above_stay row (first ∷ rest) h = go (row_cmp first row) (row_total.antisymm first row ∙ ap ordering_reverse h.0) (above_stay row rest h.1)
  where
    go : (o : Ordering) → o ≡ Greater → without_rows (row ∷ []) rest ≡ rest
        → cond (not (is_eq o || false)) (first ∷ without_rows (row ∷ []) rest) (without_rows (row ∷ []) rest) ≡ first ∷ rest
    go Less e ih = cc
    go Equal e ih = cc
    go Greater e ih = ap (λ rows. first ∷ rows) ih

-- what is left where a row is removed from its place
pub remove_at : (row : Row) (rows : List Row) → Ascends rows → (i : ℕ) → i < length rows → HoldsAt (λ other. row_cmp other row ≡ Equal) rows i
    → remove rows i ≡ without_rows (row ∷ []) rows
remove_at row [] h i within at = absurd (omega (arith, within))
remove_at row (first ∷ rest) h zero within at =
    let equal : row_cmp first row ≡ Equal = at row in
    rw equal (sym (above_stay row rest (subst (λ r. AllByRecursion (λ other. row_cmp r other ≡ Less) rest) (row_exact first row equal) (sorted_head row_cmp first rest h))))
remove_at row (first ∷ rest) h (suc i) within at =
    let one : slice_index_or rest i row ≡ row = row_exact (slice_index_or rest i row) row (at row) in
    let less : row_cmp first (slice_index_or rest i row) ≡ Less = Less-from_sorted row_cmp (first ∷ rest) 0 (suc i) row h (search rules) within in
    let below : row_cmp first row ≡ Less = subst (λ r. row_cmp first r ≡ Less) one less in
    rw below (ap (λ rows. first ∷ rows) (remove_at row rest (sorted_tail row_cmp first rest h) i (search rules) (λ d. at d)))

pub removed_found : (row : Row) (rows : List Row) → Ascends rows → (found : Result ℕ ℕ) → IsSearchInRange found (length rows)
    → IsBinarySearchResult (λ other. row_cmp other row) rows found → IfOk found (λ i. remove rows i ≡ without_rows (row ∷ []) rows)
removed_found row rows h (Ok i) within at = remove_at row rows h i within at
removed_found row rows h (Err i) within at = tt

pub with_last : (others : List Row) (row : Row) (rows : List Row) → with_rows (others ++ row ∷ []) rows ≡ with_rows others (put row rows)
with_last [] row rows = refl
with_last (first ∷ others) row rows = ap (put first) (with_last others row rows)

-- a row that isn't there takes nothing away
pub absent_stay : (row : Row) (rows : List Row) → has rows row ≡ false → without_rows (row ∷ []) rows ≡ rows
absent_stay row [] h = refl
absent_stay row (first ∷ rest) h = go (row_cmp row first) refl (row_cmp first row) (row_total.antisymm first row) h (absent_stay row rest)
  where
    go : (o : Ordering) → row_cmp row first ≡ o → (p : Ordering) → p ≡ ordering_reverse (row_cmp row first) → (is_eq (row_cmp row first) || has rest row) ≡ false
        → (has rest row ≡ false → without_rows (row ∷ []) rest ≡ rest)
        → cond (not (is_eq p || false)) (first ∷ without_rows (row ∷ []) rest) (without_rows (row ∷ []) rest) ≡ first ∷ rest
    go Less e p pe h ih = rw (pe, e) (ap (λ rows. first ∷ rows) (ih (rw e at h)))
    go Equal e p pe h ih = cc (rw e at h)
    go Greater e p pe h ih = rw (pe, e) (ap (λ rows. first ∷ rows) (ih (rw e at h)))

-- without none
pub nothing_removed : (rows : List Row) → without_rows [] rows ≡ rows
nothing_removed [] = refl
nothing_removed (row ∷ rows) = ap (λ rows. row ∷ rows) (nothing_removed rows)

pub where_done : {X E : Type 0} (r : Result X E) (A : Type 0) (new a b : A) → IsOk r → new ≡ cond (is_ok r) a b → new ≡ a
where_done (Ok x) A new a b done e = e
where_done (Err x) A new a b done e = cc done
