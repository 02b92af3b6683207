-- Where a row stands, or belongs, in a set of rows.
use Rattle.std.proofs.Common.{◌≡◌, refl, cond, sym, ap, ◌∙◌, subst, ℕ, zero, suc, ◌+◌, ◌-◌, ◌<◌, ◌≤◌, Bool, true, false, ◌||◌, List, [], ◌∷◌, length, slice_index_or, Result, Ok, Err, IfErr, is_ok, rules, arith}
use Rattle.std.proofs.lemmas.List.Folds.{list_any_at}
use Rattle.std.proofs.lemmas.List.Sorted.{searchable_from_sorted}
use Rattle.std.proofs.lemmas.Map.Keys.{Less-from_sorted}
use Rattle.std.specs.List.{AllWithin, HoldsAt, insert}
use Rattle.std.specs.List.Sorted.{IsSorted, IsNonDecreasingBy, IsBinarySearchResult, IsSearchInRange}
use Rattle.std.specs.Ordering.{eq_by_cmp, is_eq, is_lt, ordering_index, ordering_reverse}
use Rattle.std.specs.declared.cmp.Ordering.{Ordering}
use Rattle.std.specs.declared.cmp.Ordering.TheVariants.{Less, Equal, Greater}
use Rattle.calculus.specs.Orders.{row_total}
use Rattle.calculus.specs.Rows.{Row, Ascends, has, put, IsBehind, IsPlaceOf}
use Rattle.calculus.specs.Value.{row_cmp}
use Rattle.calculus.proofs.Sets.{same_set, same_exact, has-put, put-cons, Ascends-put}

turned : (row other : Row) (o : Ordering) → row_cmp other row ≡ o → row_cmp row other ≡ ordering_reverse o
turned row other o e = row_total.antisymm row other ∙ ap ordering_reverse e

-- a row that is there changes nothing
pub put-there : (row : Row) (rows : List Row) → Ascends rows → has rows row ≡ true → put row rows ≡ rows
put-there row rows ascends there =
    same_set (put row rows) rows (Ascends-put row rows ascends) ascends (λ q. has-put row rows q ∙ go q (eq_by_cmp row_cmp q row) refl)
  where
    go : (q : Row) (b : Bool) → eq_by_cmp row_cmp q row ≡ b → (eq_by_cmp row_cmp q row || has rows q) ≡ has rows q
    go q true e = ap (λ b. b || has rows q) e ∙ sym there ∙ ap (has rows) (sym (same_exact q row e))
    go q false e = ap (λ b. b || has rows q) e

-- between smaller rows and greater ones is the place of a row
pub put-between : (row : Row) (rows : List Row) (i : ℕ) → i ≤ length rows
    → AllWithin (λ other. row_cmp other row ≡ Less) rows 0 i → AllWithin (λ other. row_cmp other row ≡ Greater) rows i (length rows)
    → put row rows ≡ insert rows i row
put-between row [] zero within below above = refl
put-between row [] (suc i) within below above = absurd (omega (arith, within))
put-between row (first ∷ rest) zero within below above =
    put-cons row first rest Less (turned row first Greater (above 0 first (search rules) (search rules)))
put-between row (first ∷ rest) (suc i) within below above =
    put-cons row first rest Greater (turned row first Less (below 0 first (search rules) (search rules)))
    ∙ ap (λ rows. first ∷ rows) (put-between row rest i (search rules)
    (λ k d low high. below (suc k) d (search rules) (search rules))
    (λ k d low high. above (suc k) d (search rules) (search rules)))

pub has-between : (row : Row) (rows : List Row) (i : ℕ)
    → AllWithin (λ other. row_cmp other row ≡ Less) rows 0 i → AllWithin (λ other. row_cmp other row ≡ Greater) rows i (length rows)
    → has rows row ≡ false
has-between row [] i below above = refl
has-between row (first ∷ rest) zero below above =
    ap (λ o. is_eq o || has rest row) (turned row first Greater (above 0 first (search rules) (search rules)))
    ∙ has-between row rest zero (λ k d low high. absurd (omega (arith, low, high))) (λ k d low high. above (suc k) d (search rules) (search rules))
has-between row (first ∷ rest) (suc i) below above =
    ap (λ o. is_eq o || has rest row) (turned row first Less (below 0 first (search rules) (search rules)))
    ∙ has-between row rest i (λ k d low high. below (suc k) d (search rules) (search rules)) (λ k d low high. above (suc k) d (search rules) (search rules))

pub has-at : (row : Row) (rows : List Row) (i : ℕ) → i < length rows → HoldsAt (λ other. row_cmp other row ≡ Equal) rows i → has rows row ≡ true
has-at row rows i within at =
    list_any_at (eq_by_cmp row_cmp row) rows i row within (ap is_eq (turned row (slice_index_or rows i row) Equal (at row)))

sorted_from_ascends : (rows : List Row) → Ascends rows → IsSorted row_cmp rows
sorted_from_ascends rows h k d low high =
    ap is_lt (turned (slice_index_or rows (k + 1) d) (slice_index_or rows k d) Less (Less-from_sorted row_cmp rows k (k + 1) d h (search rules) high))

rises : (row : Row) (rows : List Row) → Ascends rows → IsNonDecreasingBy (λ other. ordering_index (row_cmp other row)) rows
rises row rows h = searchable_from_sorted row_total (λ other. other) rows row (sorted_from_ascends rows h)

-- what a search in a set says of a row
pub record IsPlace (rows : List Row) (row : Row) (found : Result ℕ ℕ) : Type 0 where
  pub there : is_ok found ≡ has rows row
  pub place : IfErr found (IsPlaceOf rows row)

pub IsPlace-search : (row : Row) (rows : List Row) → Ascends rows → (found : Result ℕ ℕ) → IsSearchInRange found (length rows)
    → IsBinarySearchResult (λ other. row_cmp other row) rows found → IsPlace rows row found
IsPlace-search row rows h (Ok i) within at = record { there = sym (has-at row rows i within at); place = tt }
IsPlace-search row rows h (Err i) within at =
    let parts = at (rises row rows h) in
    record { there = sym (has-between row rows i parts.0 parts.1); place = (within, put-between row rows i within parts.0 parts.1) }

-- a row that is greater than the last one belongs behind it
pub IsPlace-behind : (row : Row) (rows : List Row) → Ascends rows → IsBehind rows row → IsPlace rows row (Err (length rows))
IsPlace-behind row rows h last =
    record { there = sym (has-between row rows (length rows) below above); place = (search rules, put-between row rows (length rows) (search rules) below above) }
  where
    less : (o : Ordering) → ordering_index o ≤ 0 → o ≡ Less
    less Less h = refl
    less Equal h = absurd (omega (arith, h))
    less Greater h = absurd (omega (arith, h))

    below : AllWithin (λ other. row_cmp other row ≡ Less) rows 0 (length rows)
    below k d low high =
        let rising = rises row rows h k (length rows - 1) d (omega (arith, high)) (omega (arith, high)) in
        less (row_cmp (slice_index_or rows k d) row) (subst (λ o. ordering_index (row_cmp (slice_index_or rows k d) row) ≤ ordering_index o) (last d) rising)

    above : AllWithin (λ other. row_cmp other row ≡ Greater) rows (length rows) (length rows)
    above k d low high = absurd (omega (arith, low, high))

-- a set in which a row was put at its place, or to which nothing was done
pub Ascends-insert : (row : Row) (rows new : List Row) (place : ℕ) (done : Bool) → Ascends rows → IsPlaceOf rows row place
    → new ≡ cond done (insert rows place row) rows → Ascends new
Ascends-insert row rows new place true h at e = subst Ascends (at.1 ∙ sym e) (Ascends-put row rows h)
Ascends-insert row rows new place false h at e = subst Ascends (sym e) h
