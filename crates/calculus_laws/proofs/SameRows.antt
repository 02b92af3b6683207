-- A variable that ranges over no view has the same rows wherever the same attributes of it are used.
use Rattle.std.proofs.Common.{◌≡◌, refl, sym, ap, ◌∙◌, inl, inr, ℕ, ◌+◌, Bool, true, false, ◌&&◌, ◌||◌, List, [], ◌∷◌, map, Option, Some, None}
use Rattle.std.specs.List.{list_any, list_all, filter, enumerate_from}
use Rattle.calculus.specs.declared.query.RelKey.{RelKey}
use Rattle.calculus.specs.declared.query.Query.{Query}
use Rattle.calculus.specs.Rows.{Row}
use Rattle.calculus.specs.Lists.{has_number}
use Rattle.calculus.specs.Term.{no_aggs, holds}
use Rattle.calculus.specs.Limits.{greatest_level}
use Rattle.calculus.specs.Who.{Who, Unrestricted, AsUser}
use Rattle.calculus.specs.Database.{Db, View, permits_on}
use Rattle.calculus.specs.Stored.{Range, Kept, Viewed, range_at}
use Rattle.calculus.specs.Rights.{Right, Retrieve, has_right, is_for, has_attrs, covers, needs_none, may}
use Rattle.calculus.specs.QueryParts.{vars_of, query_aggregates}
use Rattle.calculus.specs.Used.{used_in_query}
use Rattle.calculus.specs.Assignments.{Source, choices, rows_used, variable_rows, assigned}
use Rattle.calculus.specs.VariableRows.{range_rows, rows_within, rows_of}
use Rattle.calculus_laws.specs.Expansion.{expanded, is_no_view}
use Rattle.calculus_laws.proofs.Through.{said_view, said_at, rows_said}
use Rattle.calculus_laws.proofs.Members.{In, Within}
use Rattle.calculus_laws.proofs.UsedIn.{expanded_within, within_expanded}

-- ---- rights ask only which attributes are used, not how often

pub both_true : (b c : Bool) → (b && c) ≡ true → (b ≡ true) × (c ≡ true)
both_true true c h = (refl, h)
both_true false c h = cc h

pub all_at : {X : Type 0} (p : X → Bool) (xs : List X) (x : X) → In x xs → list_all p xs ≡ true → p x ≡ true
all_at p [] x h k = absurd h
all_at p (y ∷ ys) x (inl same) k = ap p (sym same) ∙ (both_true (p y) (list_all p ys) k).0
all_at p (y ∷ ys) x (inr h) k = all_at p ys x h (both_true (p y) (list_all p ys) k).1

all_within : {X : Type 0} (p : X → Bool) (xs ys : List X) → Within xs ys → list_all p ys ≡ true → list_all p xs ≡ true
all_within p [] ys within h = refl
all_within p (x ∷ xs) ys within h = λ i. all_at p ys x (within x (inl refl)) h i && all_within p xs ys (λ z k. within z (inr k)) h i

pub equal_by : (b c : Bool) → (b ≡ true → c ≡ true) → (c ≡ true → b ≡ true) → b ≡ c
equal_by true c to from = sym (to refl)
equal_by false true to from = from refl
equal_by false false to from = refl

same_attrs : (permitted xs ys : List ℕ) → Within xs ys → Within ys xs → has_attrs permitted xs ≡ has_attrs permitted ys
same_attrs [] xs ys to from = refl
same_attrs (a ∷ more) xs ys to from =
    equal_by (list_all (has_number (a ∷ more)) xs) (list_all (has_number (a ∷ more)) ys) (all_within (has_number (a ∷ more)) ys xs from) (all_within (has_number (a ∷ more)) xs ys to)

same_may : (db : Db) (who : Who) (right : Right) (key : RelKey) (xs ys : List ℕ) → Within xs ys → Within ys xs → (row : Row)
    → may db who right xs key row ≡ may db who right ys key row
unfolding may covers
same_may db Unrestricted right key xs ys to from row = refl
same_may db (AsUser asker) right key xs ys to from row = λ i. needs_none db asker right key
    || list_any (λ p. (is_for p.user asker.user && (has_right p.ops right && same_attrs p.attrs xs ys to from i)) && holds no_aggs p.qual (row ∷ [])) (permits_on db key)

-- ---- the rows of a variable that ranges over no view

-- what a variable ranges over has the same rows, whatever views have, for the same attributes
same_range : (of_view other : View → List Row) (db : Db) (who : Who) (key : RelKey) (xs ys : List ℕ) → Within xs ys → Within ys xs → (range : Option Range) → is_no_view range ≡ true
    → range_rows of_view db who key xs range ≡ range_rows other db who key ys range
same_range of_view other db who key xs ys to from None h = refl
same_range of_view other db who key xs ys to from (Some (Kept relation)) h = λ i. filter (λ row. same_may db who Retrieve key xs ys to from row i) relation.rows
same_range of_view other db who key xs ys to from (Some (Viewed view)) h = cc h

-- through however many levels
same_kept : (m n : ℕ) (db : Db) (who : Who) (key : RelKey) (xs ys : List ℕ) → Within xs ys → Within ys xs → is_no_view (range_at db key) ≡ true
    → rows_within m db who key xs ≡ rows_within n db who key ys
same_kept m n db who key xs ys to from h =
    said_same m xs ∙ same_range (through_levels m xs) (through_levels n ys) db who key xs ys to from (range_at db key) h ∙ sym (said_same n ys)
  where
    through_levels : ℕ → List ℕ → View → List Row
    through_levels n attrs view = said_view (rows_said db who) n db view attrs

    said_same : (n : ℕ) (attrs : List ℕ) → rows_within n db who key attrs ≡ range_rows (through_levels n attrs) db who key attrs (range_at db key)
    said_same n attrs = ap (λ rows. rows attrs) (said_at (rows_said db who) n db key (range_at db key) refl)

-- ---- assignments

-- the rows of a variable are those of another, where both use the same attributes
same_used : (source other : Source) (key : RelKey) (xs ys : List ℕ) → Within xs ys → Within ys xs → source key xs ≡ other key ys → rows_used source key xs ≡ rows_used other key ys
same_used source other key [] [] to from same = refl
same_used source other key [] (y ∷ ys) to from same = absurd (from y (inl refl))
same_used source other key (x ∷ xs) [] to from same = absurd (to x (inl refl))
same_used source other key (x ∷ xs) (y ∷ ys) to from same = same

same_lists : (m n : ℕ) (db : Db) (who : Who) (p q : Query) → ((v : ℕ) → Within (used_in_query v p) (used_in_query v q)) → ((v : ℕ) → Within (used_in_query v q) (used_in_query v p))
    → (v : ℕ) (keys : List RelKey) → list_all (λ key. is_no_view (range_at db key)) keys ≡ true
    → map (λ x. variable_rows (rows_within m db who) p x.0 x.1) (enumerate_from v keys) ≡ map (λ x. variable_rows (rows_within n db who) q x.0 x.1) (enumerate_from v keys)
same_lists m n db who p q to from v [] h = refl
same_lists m n db who p q to from v (key ∷ keys) h =
    let (here, later) = both_true (is_no_view (range_at db key)) (list_all (λ key. is_no_view (range_at db key)) keys) h in
    (λ i. same_used (rows_within m db who) (rows_within n db who) key (used_in_query v p) (used_in_query v q) (to v) (from v)
    (same_kept m n db who key (used_in_query v p) (used_in_query v q) (to v) (from v) here) i
    ∷ same_lists m n db who p q to from (v + 1) keys later i)

-- the assignments of the view's text and of the query that it was put into are the same
pub same_assigned : (n : ℕ) (db : Db) (who : Who) (view q : Query) → query_aggregates q ≡ [] → list_all (λ key. is_no_view (range_at db key)) (vars_of view) ≡ true
    → assigned (rows_of db who) (expanded view q) ≡ assigned (rows_within n db who) view
unfolding assigned rows_of
same_assigned n db who view q plain h =
    ap choices (same_lists greatest_level n db who (expanded view q) view (λ v. expanded_within v view q plain) (λ v. within_expanded v view q) 0 (vars_of view) h)
