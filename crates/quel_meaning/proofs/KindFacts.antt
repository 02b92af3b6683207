-- Kinds of terms without aggregates are the same in queries.
use Rattle.std.proofs.Common.{◌≡◌, refl, ap, ap₂, ◌∙◌, Bool, true, false, ◌&&◌, cond, List, [], ◌∷◌, ◌++◌, Option, Some, None}
use Rattle.calculus.specs.declared.value.Kind.{Kind}
use Rattle.calculus.specs.declared.query.QTerm.{QTerm, Int, Chars, Attr, Agg', Row_of-QAgg, end_of-QAgg, more_of-QAgg}
use Rattle.calculus.specs.declared.query.QQual.{QQual, True, Cmp, Like}
use Rattle.calculus.specs.Tree.{neg, abs, operation, concat, both, either, negated}
use Rattle.calculus.specs.Database.{Db}
use Rattle.calculus.specs.Kinds.{is_number_kind, number_kind, operated_kind, joined_kind, kind_of, comparable, is_text_kind, kinds_fit}
use Rattle.calculus.specs.QueryParts.{aggregates_of, term_aggregates, qual_aggregates}
use Rattle.quel_meaning.specs.KindsInQueries.{kind_of_row, kind_in_query, kinds_fit_in_query}

pub none_before : {X : Type 0} (xs ys : List X) → xs ++ ys ≡ [] → xs ≡ []
none_before [] ys h = refl
none_before (x ∷ xs) ys h = absurd (cc h)

pub none_behind : {X : Type 0} (xs ys : List X) → xs ++ ys ≡ [] → ys ≡ []
none_behind [] ys h = h
none_behind (x ∷ xs) ys h = absurd (cc h)

same_row : (db : Db) (mark : Unit {0}) → {n : _} → (row : Row_of-QAgg n) (vars : List (List Kind)) → aggregates_of row ≡ [] → kind_of_row db row vars ≡ None
same_row db mark end_of-QAgg vars h = refl
same_row db mark (more_of-QAgg slot op source arg bys by links link qual rest) vars h = absurd (cc h)

-- a term without aggregates has the same kind in a query
pub same_kinds : (db : Db) (t : QTerm) (vars : List (List Kind)) → term_aggregates t ≡ [] → kind_in_query db t vars ≡ kind_of t vars
unfolding term_aggregates kind_in_query kind_of
same_kinds db (Int n) vars h = refl
same_kinds db (Chars bytes) vars h = refl
same_kinds db (Attr var attr) vars h = refl
same_kinds db (neg t) vars h = ap number_kind (same_kinds db t vars h)
same_kinds db (abs t) vars h = ap number_kind (same_kinds db t vars h)
same_kinds db (operation op t u) vars h =
    ap₂ operated_kind (same_kinds db t vars (none_before _ (term_aggregates u) h)) (same_kinds db u vars (none_behind (term_aggregates t) _ h))
same_kinds db (concat t u) vars h =
    ap₂ joined_kind (same_kinds db t vars (none_before _ (term_aggregates u) h)) (same_kinds db u vars (none_behind (term_aggregates t) _ h))
same_kinds db (Agg' mark row) vars h = same_row db mark row vars h

-- the kinds in a qualification without aggregates fit in a query where they fit by themselves
pub same_fit : (db : Db) (q : QQual) (vars : List (List Kind)) → qual_aggregates q ≡ [] → kinds_fit_in_query db q vars ≡ kinds_fit q vars
unfolding qual_aggregates kinds_fit_in_query kinds_fit
same_fit db True vars h = refl
same_fit db (Cmp op t u) vars h = ap₂ comparable (same_kinds db t vars (none_before _ (term_aggregates u) h)) (same_kinds db u vars (none_behind (term_aggregates t) _ h))
same_fit db (Like t pattern same) vars h = ap is_text_kind (same_kinds db t vars h)
same_fit db (both p q) vars h = ap₂ (λ a b. a && b) (same_fit db p vars (none_before _ (qual_aggregates q) h)) (same_fit db q vars (none_behind (qual_aggregates p) _ h))
same_fit db (either p q) vars h = ap₂ (λ a b. a && b) (same_fit db p vars (none_before _ (qual_aggregates q) h)) (same_fit db q vars (none_behind (qual_aggregates p) _ h))
same_fit db (negated p) vars h = same_fit db p vars h

-- ---- a term that has a kind by itself has no aggregate

number_has : (o : Option Kind) (k : Kind) → number_kind o ≡ Some k → (P : Type 0) → ((l : Kind) → o ≡ Some l → P) → P
unfolding number_kind
number_has None k h P f = absurd (cc h)
number_has (Some l) k h P f = f l refl

operated_has : (o p : Option Kind) (k : Kind) → operated_kind o p ≡ Some k → (P : Type 0) → ((l m : Kind) → o ≡ Some l → p ≡ Some m → P) → P
unfolding operated_kind number_kind
operated_has None p k h P f = absurd (cc h)
operated_has (Some l) (Some m) k h P f = f l m refl refl
operated_has (Some l) None k h P f = go (is_number_kind l) h
  where
    go : (b : Bool) → cond b None None ≡ Some k → P
    go true h = absurd (cc h)
    go false h = absurd (cc h)

joined_has : (o p : Option Kind) (k : Kind) → joined_kind o p ≡ Some k → (P : Type 0) → ((l m : Kind) → o ≡ Some l → p ≡ Some m → P) → P
unfolding joined_kind
joined_has None p k h P f = absurd (cc h)
joined_has (Some l) None k h P f = absurd (cc h)
joined_has (Some l) (Some m) k h P f = f l m refl refl

pub no_aggregate : (t : QTerm) (vars : List (List Kind)) (k : Kind) → kind_of t vars ≡ Some k → term_aggregates t ≡ []
unfolding term_aggregates kind_of
no_aggregate (Int n) vars k h = refl
no_aggregate (Chars bytes) vars k h = refl
no_aggregate (Attr var attr) vars k h = refl
no_aggregate (neg t) vars k h = number_has (kind_of t vars) k h (term_aggregates t ≡ []) (λ l e. no_aggregate t vars l e)
no_aggregate (abs t) vars k h = number_has (kind_of t vars) k h (term_aggregates t ≡ []) (λ l e. no_aggregate t vars l e)
no_aggregate (operation op t u) vars k h =
    operated_has (kind_of t vars) (kind_of u vars) k h (term_aggregates t ++ term_aggregates u ≡ [])
    (λ l m e f. ap₂ (λ xs ys. xs ++ ys) (no_aggregate t vars l e) (no_aggregate u vars m f))
no_aggregate (concat t u) vars k h =
    joined_has (kind_of t vars) (kind_of u vars) k h (term_aggregates t ++ term_aggregates u ≡ [])
    (λ l m e f. ap₂ (λ xs ys. xs ++ ys) (no_aggregate t vars l e) (no_aggregate u vars m f))
no_aggregate (Agg' mark row) vars k h = absurd (cc h)

-- a kind that a term has by itself it has in a query
pub kind_too : (db : Db) (t : QTerm) (vars : List (List Kind)) (k : Kind) → kind_of t vars ≡ Some k → kind_in_query db t vars ≡ Some k
kind_too db t vars k h = same_kinds db t vars (no_aggregate t vars k h) ∙ h
