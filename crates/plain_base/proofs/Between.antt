-- A row between two that stand side by side among ascending rows isn't there.
use Rattle.std.proofs.Common.{◌≡◌, refl, sym, ap, ◌∙◌, subst, ℕ, ◌+◌, ◌<◌, nat_lt, Bool, true, false, List, length, slice_index_or, Some, arith}
use Rattle.std.proofs.lemmas.Bool.{ltb-true, ltb-false}
use Rattle.std.proofs.lemmas.Option.{slice_get-get_or, get_or_from_slice_get}
use Rattle.std.proofs.lemmas.Map.Keys.{Less-from_sorted}
use Rattle.std.specs.List.{AllWithin}
use Rattle.std.specs.Ordering.{ordering_reverse}
use Rattle.std.specs.declared.cmp.Ordering.{Ordering}
use Rattle.std.specs.declared.cmp.Ordering.TheVariants.{Less, Equal, Greater}
use Rattle.calculus.specs.Orders.{row_total}
use Rattle.calculus.specs.Rows.{Row, Ascends, has}
use Rattle.calculus.specs.Value.{row_cmp}
use Rattle.calculus.proofs.Placing.{has-between, has-at}
use Rattle.plain_base.specs.Near.{IsLessAt}

-- what stands at a place compares as this row does
pub compares : (rows : List Row) (i : ℕ) (x row : Row) (o : Ordering) → i < length rows → x ≡ slice_index_or rows i x → row_cmp x row ≡ o
    → (d : Row) → row_cmp (slice_index_or rows i d) row ≡ o
compares rows i x row o within is e d = ap (λ r. row_cmp r row) (get_or_from_slice_get rows i x d (slice_get-get_or rows i x within ∙ ap Some (sym is))) ∙ e

pub absent_between : (rows : List Row) (row : Row) (i : ℕ) → Ascends rows → IsLessAt rows row i → i + 1 < length rows
    → ((d : Row) → row_cmp (slice_index_or rows (i + 1) d) row ≡ Greater) → has rows row ≡ false
absent_between rows row i h less within greater = has-between row rows (i + 1) below above
  where
    below : AllWithin (λ other. row_cmp other row ≡ Less) rows 0 (i + 1)
    below k d low high = go (nat_lt k i) refl
      where
        go : (b : Bool) → nat_lt k i ≡ b → row_cmp (slice_index_or rows k d) row ≡ Less
        go true e =
            row_total.trans (slice_index_or rows k d) (slice_index_or rows i d) row (Less-from_sorted row_cmp rows k i d h (ltb-true k i e) less.0) (less.1 d)
        go false e =
            let one : i ≡ k = omega (arith, ltb-false k i e, high) in
            subst (λ k. row_cmp (slice_index_or rows k d) row ≡ Less) one (less.1 d)

    above : AllWithin (λ other. row_cmp other row ≡ Greater) rows (i + 1) (length rows)
    above k d low high = go (nat_lt (i + 1) k) refl
      where
        next : Row
        next = slice_index_or rows (i + 1) d

        turned : row_cmp row next ≡ Less
        turned = row_total.antisymm row next ∙ ap ordering_reverse (greater d)

        go : (b : Bool) → nat_lt (i + 1) k ≡ b → row_cmp (slice_index_or rows k d) row ≡ Greater
        go true e =
            row_total.antisymm (slice_index_or rows k d) row
            ∙ ap ordering_reverse (row_total.trans row next (slice_index_or rows k d) turned (Less-from_sorted row_cmp rows (i + 1) k d h (ltb-true (i + 1) k e) high))
        go false e =
            let one : i + 1 ≡ k = omega (arith, ltb-false (i + 1) k e, low) in
            subst (λ k. row_cmp (slice_index_or rows k d) row ≡ Greater) one (greater d)

pub there_at : (rows : List Row) (row : Row) (i : ℕ) → i < length rows → ((d : Row) → row_cmp (slice_index_or rows i d) row ≡ Equal) → has rows row ≡ true
there_at rows row i within at = has-at row rows i within at
