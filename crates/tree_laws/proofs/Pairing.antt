-- What refuses an update, and what stands after it, is told by which pairs it has, in whatever order.
use Rattle.std.proofs.Common.{◌≡◌, refl, sym, ap, ◌∙◌, inl, inr, Bool, true, false, not, ◌&&◌, ◌||◌, List, [], ◌∷◌}
use Rattle.std.specs.List.{filter}
use Rattle.std.specs.Ordering.{eq_by_cmp}
use Rattle.std.proofs.lemmas.Cmp.{eq_by_cmp_equiv}
use Rattle.calculus.specs.declared.change.Pair.{Pair}
use Rattle.calculus.specs.Orders.{row_total}
use Rattle.calculus.specs.Value.{row_cmp}
use Rattle.calculus.specs.Rows.{Row, Ascends, has}
use Rattle.calculus.specs.Replacement.{old_rows, new_rows, after, has_old, some_differ, contended}
use Rattle.calculus.proofs.Sets.{same_exact, same_set}
use Rattle.calculus_laws.proofs.After.{after_ascends, has-after}
use Rattle.calculus_laws.proofs.Members.{In, Within, any-In, In-any, has-In, In-has, In-filter, filter-In, In-filter_map, filter_map-In}
use Rattle.calculus_laws.proofs.SameRows.{equal_by}

-- the two rows are the same
abbrev same : Row → Row → Bool
same = eq_by_cmp row_cmp

same_self : (x : Row) → same x x ≡ true
same_self x = (eq_by_cmp_equiv row_total).refl x

turned : (x y : Row) → same x y ≡ false → same y x ≡ false
turned x y h = by (same y x) refl
  where
    by : (b : Bool) → same y x ≡ b → b ≡ false
    by false e = refl
    by true e = let exact : y ≡ x = same_exact y x e in cc (sym (same_self x) ∙ ap (same x) (sym exact) ∙ h)

not_true : (b : Bool) → not b ≡ true → b ≡ false
not_true true h = cc h
not_true false h = refl

-- ---- rows that differ

differ_in : (rows : List Row) → some_differ rows ≡ true → (x : Row) × (y : Row) × In x rows × In y rows × (same x y ≡ false)
differ_in [] h = cc h
differ_in (row ∷ rows) h = let (other, inside, differs) = any-In (λ other. not (same row other)) rows h in (row, other, inl refl, inr inside, not_true (same row other) differs)

in_differ : (rows : List Row) (x y : Row) → In x rows → In y rows → same x y ≡ false → some_differ rows ≡ true
in_differ [] x y h k d = absurd h
in_differ (row ∷ rows) x y (inl e) (inl f) d = cc (sym (same_self x) ∙ ap (same x) (sym e ∙ f) ∙ d)
in_differ (row ∷ rows) x y (inl e) (inr k) d = In-any (λ other. not (same row other)) rows y k (ap (λ r. not (same r y)) e ∙ ap not d)
in_differ (row ∷ rows) x y (inr h) (inl f) d = In-any (λ other. not (same row other)) rows x h (ap (λ r. not (same r x)) f ∙ ap not (turned x y d))
in_differ (row ∷ rows) x y (inr h) (inr k) d = by (same row x) refl
  where
    by : (b : Bool) → same row x ≡ b → some_differ (row ∷ rows) ≡ true
    by true e = In-any (λ other. not (same row other)) rows y k (ap (λ r. not (same r y)) (same_exact row x e) ∙ ap not d)
    by false e = In-any (λ other. not (same row other)) rows x h (ap not e)

-- ---- pairs

pub old_within : (ps qs : List Pair) → Within ps qs → Within (old_rows ps) (old_rows qs)
old_within ps qs w row h = let (p, inside, e) = filter_map-In (λ p. p.old) ps row h in In-filter_map (λ p. p.old) qs p row (w p inside) e

pub new_within : (ps qs : List Pair) → Within ps qs → Within (new_rows ps) (new_rows qs)
new_within ps qs w row h = let (p, inside, e) = filter_map-In (λ p. p.new) ps row h in In-filter_map (λ p. p.new) qs p row (w p inside) e

with_old_within : (old : Row) (ps qs : List Pair) → Within ps qs → Within (filter (has_old old) ps) (filter (has_old old) qs)
with_old_within old ps qs w p h = let (inside, e) = filter-In (has_old old) ps p h in In-filter (has_old old) qs p (w p inside) e

contended_within : (ps qs : List Pair) → Within ps qs → contended ps ≡ true → contended qs ≡ true
unfolding contended
contended_within ps qs w h =
    let (old, there, differ) = any-In (λ old. some_differ (new_rows (filter (has_old old) ps))) (old_rows ps) h in
    let (x, y, in_x, in_y, d) = differ_in (new_rows (filter (has_old old) ps)) differ in
    let news = new_within (filter (has_old old) ps) (filter (has_old old) qs) (with_old_within old ps qs w) in
    In-any (λ old. some_differ (new_rows (filter (has_old old) qs))) (old_rows qs) old (old_within ps qs w old there) (in_differ (new_rows (filter (has_old old) qs)) x y (news x in_x) (news y in_y) d)

pub same_contended : (ps qs : List Pair) → Within ps qs → Within qs ps → contended ps ≡ contended qs
same_contended ps qs to from = equal_by (contended ps) (contended qs) (contended_within ps qs to) (contended_within qs ps from)

has_within : (xs ys : List Row) → Within xs ys → (row : Row) → has xs row ≡ true → has ys row ≡ true
has_within xs ys w row h = In-has ys row (w row (has-In xs row h))

same_has : (xs ys : List Row) → Within xs ys → Within ys xs → (row : Row) → has xs row ≡ has ys row
same_has xs ys to from row = equal_by (has xs row) (has ys row) (has_within xs ys to row) (has_within ys xs from row)

pub same_after : (rows : List Row) → Ascends rows → (ps qs : List Pair) → Within ps qs → Within qs ps → after rows ps ≡ after rows qs
same_after rows ascend ps qs to from =
    same_set (after rows ps) (after rows qs) (after_ascends rows ps ascend) (after_ascends rows qs ascend)
    (λ row. has-after rows ps row
    ∙ (λ i. same_has (new_rows ps) (new_rows qs) (new_within ps qs to) (new_within qs ps from) row i
    || (has rows row && not (same_has (old_rows ps) (old_rows qs) (old_within ps qs to) (old_within qs ps from) row i)))
    ∙ sym (has-after rows qs row))
