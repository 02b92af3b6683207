-- Which rows stand after an update.
use Rattle.std.proofs.Common.{◌≡◌, refl, sym, ap, ◌∙◌, subst, Bool, true, false, not, ◌&&◌, ◌||◌, cond, ◌↔◌, ◌⊎◌, inl, inr, List, [], ◌∷◌, filter, filter_map, Option, Some, None, Contains, arith}
use Rattle.std.proofs.lemmas.List.Elements.{Contains-append_right, Contains-append_cases, Contains-push_cases}
use Rattle.std.proofs.lemmas.List.Kept.{IsStrictlySortedBy-filter}
use Rattle.std.specs.List.{cons_option}
use Rattle.std.specs.Ordering.{eq_by_cmp}
use Rattle.calculus.specs.declared.change.Pair.{Pair}
use Rattle.calculus.specs.Value.{row_cmp}
use Rattle.calculus.specs.Rows.{Row, Ascends, has}
use Rattle.calculus.specs.Replacement.{old_rows, new_rows, with_rows, without_rows, after}
use Rattle.calculus.proofs.Sets.{same_exact, has-put, Ascends-put}
use Rattle.calculus.proofs.Made.{Contains-has, has-Contains}
use Rattle.calculus_laws.specs.Updates.{IsOldInNone, IsNewInSome}

-- ---- no pairs

filter_all : (rows : List Row) → filter (λ row. true) rows ≡ rows
filter_all [] = refl
filter_all (row ∷ rows) = ap (λ rows. row ∷ rows) (filter_all rows)

pub after_no_pairs : (rows : List Row) → after rows [] ≡ rows
unfolding after
after_no_pairs rows = filter_all rows

-- ---- a set stays one

Ascends-with_rows : (others rows : List Row) → Ascends rows → Ascends (with_rows others rows)
Ascends-with_rows [] rows h = h
Ascends-with_rows (row ∷ others) rows h = Ascends-put row (with_rows others rows) (Ascends-with_rows others rows h)

pub after_ascends : (rows : List Row) (ps : List Pair) → Ascends rows → Ascends (after rows ps)
unfolding after
after_ascends rows ps h =
    Ascends-with_rows (new_rows ps) (without_rows (old_rows ps) rows) (IsStrictlySortedBy-filter row_cmp (λ row. not (has (old_rows ps) row)) rows h)

-- ---- what is there, as a truth value

or_assoc : (a b c : Bool) → (a || (b || c)) ≡ ((a || b) || c)
or_assoc true b c = refl
or_assoc false b c = refl

has-with_rows : (others rows : List Row) (q : Row) → has (with_rows others rows) q ≡ (has others q || has rows q)
has-with_rows [] rows q = refl
has-with_rows (row ∷ others) rows q =
    has-put row (with_rows others rows) q ∙ ap (λ b. eq_by_cmp row_cmp q row || b) (has-with_rows others rows q)
    ∙ or_assoc (eq_by_cmp row_cmp q row) (has others q) (has rows q)

has-filter : (test : Row → Bool) (rows : List Row) (q : Row) → has (filter test rows) q ≡ (has rows q && test q)
has-filter test [] q = refl
has-filter test (row ∷ rows) q = go (test row) refl (eq_by_cmp row_cmp q row) refl (has-filter test rows q)
  where
    and_false : (b : Bool) → (b && false) ≡ false
    and_false true = refl
    and_false false = refl

    at_same : (t : Bool) → test row ≡ t → eq_by_cmp row_cmp q row ≡ true → test q ≡ t
    at_same t e f = ap test (same_exact q row f) ∙ e

    go : (t : Bool) → test row ≡ t → (s : Bool) → eq_by_cmp row_cmp q row ≡ s → has (filter test rows) q ≡ (has rows q && test q)
        → has (cond t (row ∷ filter test rows) (filter test rows)) q ≡ ((eq_by_cmp row_cmp q row || has rows q) && test q)
    go true e true f ih =
        ap (λ b. b || has (filter test rows) q) f ∙ sym (ap (λ b. (b || has rows q) && test q) f ∙ at_same true e f)
    go false e true f ih =
        ih ∙ ap (λ b. has rows q && b) (at_same false e f) ∙ and_false (has rows q) ∙ sym (ap (λ b. (b || has rows q) && test q) f ∙ at_same false e f)
    go true e false f ih = ap (λ b. b || has (filter test rows) q) f ∙ ih ∙ ap (λ b. (b || has rows q) && test q) (sym f)
    go false e false f ih = ih ∙ ap (λ b. (b || has rows q) && test q) (sym f)

pub has-after : (rows : List Row) (ps : List Pair) (q : Row) → has (after rows ps) q ≡ (has (new_rows ps) q || (has rows q && not (has (old_rows ps) q)))
unfolding after
has-after rows ps q =
    has-with_rows (new_rows ps) (without_rows (old_rows ps) rows) q
    ∙ ap (λ b. has (new_rows ps) q || b) (has-filter (λ row. not (has (old_rows ps) row)) rows q)

-- ---- the old rows and the new rows of pairs

pub head_or_later : {X : Type 0} (x : X) (xs : List X) (y : X) → Contains (x ∷ xs) y → (x ≡ y) ⊎ Contains xs y
head_or_later x xs y c = elim (Contains-append_cases (x ∷ []) xs y c) [ inl h ↦ inl (only h) | inr h ↦ inr h ]
  where
    only : Contains (x ∷ []) y → x ≡ y
    only h = elim (Contains-push_cases [] x y h) [ inl none ↦ absurd (omega (arith, none.1)) | inr e ↦ e ]

pub at_head : {X : Type 0} (x : X) (xs : List X) → Contains (x ∷ xs) x
at_head x xs = (0, omega arith, refl)

from_filter_map : (f : Pair → Option Row) (ps : List Pair) (row : Row) → Contains (filter_map f ps) row → (p : Pair) × Contains ps p × (f p ≡ Some row)
from_filter_map f [] row c = absurd (omega (arith, c.1))
from_filter_map f (p ∷ ps) row c = go (f p) refl c (from_filter_map f ps row)
  where
    go : (o : Option Row) → f p ≡ o → Contains (cons_option o (filter_map f ps)) row
        → (Contains (filter_map f ps) row → (q : Pair) × Contains ps q × (f q ≡ Some row)) → (q : Pair) × Contains (p ∷ ps) q × (f q ≡ Some row)
    go None e c later = let t = later c in (t.0, Contains-append_right (p ∷ []) ps t.0 t.1, t.2)
    go (Some r) e c later = elim (head_or_later r (filter_map f ps) row c) [
      | inl h ↦ (p, at_head p ps, e ∙ ap (λ r. Some r) h)
      | inr h ↦ let t = later h in (t.0, Contains-append_right (p ∷ []) ps t.0 t.1, t.2)
    ]

to_filter_map : (f : Pair → Option Row) (ps : List Pair) (p : Pair) (row : Row) → Contains ps p → f p ≡ Some row → Contains (filter_map f ps) row
to_filter_map f [] p row c e = absurd (omega (arith, c.1))
to_filter_map f (first ∷ ps) p row c e = go (f first) refl (to_filter_map f ps p row) (head_or_later first ps p c)
  where
    go : (o : Option Row) → f first ≡ o → (Contains ps p → f p ≡ Some row → Contains (filter_map f ps) row) → (first ≡ p) ⊎ Contains ps p
        → Contains (cons_option o (filter_map f ps)) row
    go None k later (inl h) = let no : None ≡ Some row = sym k ∙ ap f h ∙ e in cc no
    go None k later (inr h) = later h e
    go (Some r) k later (inl h) = let same : Some r ≡ Some row = sym k ∙ ap f h ∙ e in let r_row : r ≡ row = cc same in subst (λ r. Contains (r ∷ filter_map f ps) row) (sym r_row) (at_head row (filter_map f ps))
    go (Some r) k later (inr h) = Contains-append_right (r ∷ []) (filter_map f ps) row (later h e)

-- ---- what stands after

absent : (rows : List Row) (row : Row) → ¬ (Contains rows row) → has rows row ≡ false
absent rows row h = go (has rows row) refl
  where
    go : (b : Bool) → has rows row ≡ b → b ≡ false
    go true e = absurd (h (Contains-has rows row e))
    go false e = refl

no_old : (ps : List Pair) (row : Row) → IsOldInNone ps row → has (old_rows ps) row ≡ false
no_old ps row h = absent (old_rows ps) row (λ c. let t = from_filter_map (λ p. p.old) ps row c in h t.0 t.1 t.2)

right_true : (b c : Bool) → c ≡ true → (b || c) ≡ true
right_true true c h = refl
right_true false c h = h

pub old_in_no_pair_stays : (rows : List Row) (ps : List Pair) (row : Row) → Contains rows row → IsOldInNone ps row → Contains (after rows ps) row
old_in_no_pair_stays rows ps row there none =
    Contains-has (after rows ps) row
    (has-after rows ps row ∙ right_true (has (new_rows ps) row) (has rows row && not (has (old_rows ps) row))
    ((λ i. has-Contains rows row there i && not (no_old ps row none i))))

new_in_some : (rows : List Row) (ps : List Pair) (row : Row) → IsNewInSome ps row → Contains (after rows ps) row
new_in_some rows ps row h =
    Contains-has (after rows ps) row
    (has-after rows ps row
    ∙ ap (λ b. b || (has rows row && not (has (old_rows ps) row))) (has-Contains (new_rows ps) row (to_filter_map (λ p. p.new) ps h.0 row h.1 h.2)))

either_one : (rows : List Row) (ps : List Pair) (row : Row) → Contains (after rows ps) row → (Contains rows row × IsOldInNone ps row) ⊎ IsNewInSome ps row
either_one rows ps row c =
    go (has (new_rows ps) row) refl (has rows row) refl (has (old_rows ps) row) refl (sym (has-after rows ps row) ∙ has-Contains (after rows ps) row c)
  where
    old : (p : Pair) → has (old_rows ps) row ≡ false → Contains ps p → ¬ (p.old ≡ Some row)
    old p none there is = let found : has (old_rows ps) row ≡ true = has-Contains (old_rows ps) row (to_filter_map (λ p. p.old) ps p row there is) in let no : true ≡ false = sym found ∙ none in cc no

    go : (a : Bool) → has (new_rows ps) row ≡ a → (b : Bool) → has rows row ≡ b → (d : Bool) → has (old_rows ps) row ≡ d
        → (a || (b && not d)) ≡ true → (Contains rows row × IsOldInNone ps row) ⊎ IsNewInSome ps row
    go true ea b eb d ed h = inr (from_filter_map (λ p. p.new) ps row (Contains-has (new_rows ps) row ea))
    go false ea true eb true ed h = cc h
    go false ea true eb false ed h = inl (Contains-has rows row eb, λ p. old p ed)
    go false ea false eb d ed h = cc h

pub what_stands_after : (rows : List Row) (ps : List Pair) (row : Row)
    → Contains (after rows ps) row ↔ ((Contains rows row × IsOldInNone ps row) ⊎ IsNewInSome ps row)
what_stands_after rows ps row =
    (either_one rows ps row, λ h. elim h [ inl stays ↦ old_in_no_pair_stays rows ps row stays.0 stays.1 | inr comes ↦ new_in_some rows ps row comes ])
