-- The rows after an update, by which rows are there.
use Rattle.std.proofs.Common.{◌≡◌, refl, sym, ap, ◌∙◌, Bool, true, false, not, ◌&&◌, ◌||◌, cond, List, [], ◌∷◌, filter}
use Rattle.std.proofs.lemmas.List.Kept.{IsStrictlySortedBy-filter}
use Rattle.std.specs.Ordering.{eq_by_cmp}
use Rattle.calculus.specs.declared.change.Pair.{Pair}
use Rattle.calculus.specs.Value.{row_cmp}
use Rattle.calculus.specs.Rows.{Row, Ascends, has}
use Rattle.calculus.specs.Replacement.{old_rows, new_rows, with_rows, without_rows, after}
use Rattle.calculus.proofs.Sets.{same_exact, has-put, Ascends-put}

Ascends-with_rows : (others rows : List Row) → Ascends rows → Ascends (with_rows others rows)
Ascends-with_rows [] rows h = h
Ascends-with_rows (row ∷ others) rows h = Ascends-put row (with_rows others rows) (Ascends-with_rows others rows h)

pub Ascends-after : (rows : List Row) (ps : List Pair) → Ascends rows → Ascends (after rows ps)
unfolding after
Ascends-after rows ps h =
    Ascends-with_rows (new_rows ps) (without_rows (old_rows ps) rows) (IsStrictlySortedBy-filter row_cmp (λ row. not (has (old_rows ps) row)) rows h)

or_assoc : (a b c : Bool) → (a || (b || c)) ≡ ((a || b) || c)
or_assoc true b c = refl
or_assoc false b c = refl

has-with_rows : (others rows : List Row) (q : Row) → has (with_rows others rows) q ≡ (has others q || has rows q)
has-with_rows [] rows q = refl
has-with_rows (row ∷ others) rows q =
    has-put row (with_rows others rows) q ∙ ap (λ b. eq_by_cmp row_cmp q row || b) (has-with_rows others rows q)
    ∙ or_assoc (eq_by_cmp row_cmp q row) (has others q) (has rows q)

pub has-filter : (test : Row → Bool) (rows : List Row) (q : Row) → has (filter test rows) q ≡ (has rows q && test q)
has-filter test [] q = refl
has-filter test (row ∷ rows) q = go (test row) refl (eq_by_cmp row_cmp q row) refl (has-filter test rows q)
  where
    and_false : (b : Bool) → (b && false) ≡ false
    and_false true = refl
    and_false false = refl

    at_same : (t : Bool) → test row ≡ t → eq_by_cmp row_cmp q row ≡ true → test q ≡ t
    at_same t e f = ap test (same_exact q row f) ∙ e

    go : (t : Bool) → test row ≡ t → (s : Bool) → eq_by_cmp row_cmp q row ≡ s → has (filter test rows) q ≡ (has rows q && test q)
        → has (cond t (row ∷ filter test rows) (filter test rows)) q ≡ ((eq_by_cmp row_cmp q row || has rows q) && test q)
    go true e true f ih = ap (λ b. b || has (filter test rows) q) f ∙ sym (ap (λ b. (b || has rows q) && test q) f ∙ at_same true e f)
    go false e true f ih = ih ∙ ap (λ b. has rows q && b) (at_same false e f) ∙ and_false (has rows q) ∙ sym (ap (λ b. (b || has rows q) && test q) f ∙ at_same false e f)
    go true e false f ih = ap (λ b. b || has (filter test rows) q) f ∙ ih ∙ ap (λ b. (b || has rows q) && test q) (sym f)
    go false e false f ih = ih ∙ ap (λ b. (b || has rows q) && test q) (sym f)

-- a row stands after the update where it is new, or was there and is not old
pub has-after : (rows : List Row) (ps : List Pair) (q : Row) → has (after rows ps) q ≡ (has (new_rows ps) q || (has rows q && not (has (old_rows ps) q)))
unfolding after
has-after rows ps q =
    has-with_rows (new_rows ps) (without_rows (old_rows ps) rows) q
    ∙ ap (λ b. has (new_rows ps) q || b) (has-filter (λ row. not (has (old_rows ps) row)) rows q)
