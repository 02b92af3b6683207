-- What aggregates give of those that a query names decides what the query gives; where it names none it is all one what they give.
use Rattle.std.proofs.Common.{◌≡◌, inl, refl, ap, subst, not, is_none, ◌&&◌, ◌||◌, List, [], ◌∷◌, ◌++◌}
use Rattle.std.specs.List.{list_any, filter, filter_map, flat_map}
use Rattle.calculus.specs.declared.query.QTerm.{QTerm, Int, Chars, Attr, Agg', items-the_row-QTerm, Row_of-QAgg, end_of-QAgg, more_of-QAgg}
use Rattle.calculus.specs.declared.query.QQual.{QQual, True, Cmp, Like}
use Rattle.calculus.specs.declared.query.QAgg.{QAgg}
use Rattle.calculus.specs.declared.query.Target.{Target}
use Rattle.calculus.specs.declared.query.Query.{Query}
use Rattle.calculus.specs.Rows.{set_of}
use Rattle.calculus.specs.Tree.{neg, abs, operation, concat, both, either, negated}
use Rattle.calculus.specs.Term.{Env, Aggs, val, holds, aggregate_value, opposite_value, value_without_sign, operated_values, joined_values, compared_values, matched_value, value_before}
use Rattle.calculus.specs.QueryParts.{aggregates_of, term_aggregates, qual_aggregates, query_aggregates, targets_of, qual_of}
use Rattle.calculus.specs.Targets.{target_values, rows_given, some_lacks}
use Rattle.calculus_laws.proofs.Members.{In, In-append_left, In-append_right}

pub none_left : {X : Type 0} (xs ys : List X) → xs ++ ys ≡ [] → xs ≡ []
none_left [] ys h = refl
none_left (x ∷ xs) ys h = cc h

pub none_right : {X : Type 0} (xs ys : List X) → xs ++ ys ≡ [] → ys ≡ []
none_right [] ys h = h
none_right (x ∷ xs) ys h = cc h

-- the two give the same of these aggregates
abbrev pub AgreeOn : Aggs → Aggs → List QAgg → Type 0
AgreeOn f g named = (a : QAgg) → In a named → (e : Env) → f a e ≡ g a e

pub agree_left : (f g : Aggs) (named others : List QAgg) → AgreeOn f g (named ++ others) → AgreeOn f g named
agree_left f g named others h a inside = h a (In-append_left named others a inside)

pub agree_right : (f g : Aggs) (named others : List QAgg) → AgreeOn f g (named ++ others) → AgreeOn f g others
agree_right f g named others h a inside = h a (In-append_right named others a inside)

aggregate_agrees : (f g : Aggs) (e : Env) {n : _} (row : Row_of-QAgg n) → AgreeOn f g (aggregates_of row) → aggregate_value f row e ≡ aggregate_value g row e
aggregate_agrees f g e end_of-QAgg h = refl
aggregate_agrees f g e (more_of-QAgg slot op source arg bys by links link qual rest) h =
    h (record { slot = slot; op = op; source = source; arg = arg; by = items-the_row-QTerm _ by; link = items-the_row-QTerm _ link; qual = qual }) (inl refl) e

val_agrees : (f g : Aggs) (e : Env) (t : QTerm) → AgreeOn f g (term_aggregates t) → val f t e ≡ val g t e
unfolding val term_aggregates
val_agrees f g e (Int n) h = refl
val_agrees f g e (Chars bytes) h = refl
val_agrees f g e (Attr var attr) h = refl
val_agrees f g e (neg t) h = ap opposite_value (val_agrees f g e t h)
val_agrees f g e (abs t) h = ap value_without_sign (val_agrees f g e t h)
val_agrees f g e (operation op t u) h = λ i. operated_values op
    (val_agrees f g e t (agree_left f g (term_aggregates t) (term_aggregates u) h) i) (val_agrees f g e u (agree_right f g (term_aggregates t) (term_aggregates u) h) i)
val_agrees f g e (concat t u) h = λ i. joined_values
    (val_agrees f g e t (agree_left f g (term_aggregates t) (term_aggregates u) h) i) (val_agrees f g e u (agree_right f g (term_aggregates t) (term_aggregates u) h) i)
val_agrees f g e (Agg' mark row) h = aggregate_agrees f g e row h

pub holds_agrees : (f g : Aggs) (e : Env) (q : QQual) → AgreeOn f g (qual_aggregates q) → holds f q e ≡ holds g q e
unfolding holds qual_aggregates
holds_agrees f g e True h = refl
holds_agrees f g e (Cmp op t u) h = λ i. compared_values op
    (val_agrees f g e t (agree_left f g (term_aggregates t) (term_aggregates u) h) i) (val_agrees f g e u (agree_right f g (term_aggregates t) (term_aggregates u) h) i)
holds_agrees f g e (Like t pattern same) h = ap (matched_value pattern same) (val_agrees f g e t h)
holds_agrees f g e (both p q) h = λ i.
    holds_agrees f g e p (agree_left f g (qual_aggregates p) (qual_aggregates q) h) i && holds_agrees f g e q (agree_right f g (qual_aggregates p) (qual_aggregates q) h) i
holds_agrees f g e (either p q) h = λ i.
    holds_agrees f g e p (agree_left f g (qual_aggregates p) (qual_aggregates q) h) i || holds_agrees f g e q (agree_right f g (qual_aggregates p) (qual_aggregates q) h) i
holds_agrees f g e (negated p) h = ap not (holds_agrees f g e p h)

-- the aggregates in these targets
abbrev pub in_targets : List Target → List QAgg
in_targets ts = flat_map (λ t. term_aggregates t.term) ts

pub targets_agree : (f g : Aggs) (e : Env) (ts : List Target) → AgreeOn f g (in_targets ts) → target_values f ts e ≡ target_values g ts e
targets_agree f g e [] h = refl
targets_agree f g e (t ∷ ts) h = λ i. value_before
    (val_agrees f g e t.term (agree_left f g (term_aggregates t.term) (in_targets ts) h) i)
    (targets_agree f g e ts (agree_right f g (term_aggregates t.term) (in_targets ts) h) i)

-- ---- what a query gives

pub given_agree : (f g : Aggs) (q : Query) (es : List Env) → AgreeOn f g (query_aggregates q) → rows_given f q es ≡ rows_given g q es
unfolding rows_given
given_agree f g q es h = λ i. set_of
    (filter_map (λ e. targets_agree f g e (targets_of q) (agree_left f g (in_targets (targets_of q)) (qual_aggregates (qual_of q)) h) i)
    (filter (λ e. holds_agrees f g e (qual_of q) (agree_right f g (in_targets (targets_of q)) (qual_aggregates (qual_of q)) h) i) es))

pub lacks_agree : (f g : Aggs) (q : Query) (es : List Env) → AgreeOn f g (query_aggregates q) → some_lacks f q es ≡ some_lacks g q es
unfolding some_lacks
lacks_agree f g q es h = λ i. list_any
    (λ e. is_none (targets_agree f g e (targets_of q) (agree_left f g (in_targets (targets_of q)) (qual_aggregates (qual_of q)) h) i))
    (filter (λ e. holds_agrees f g e (qual_of q) (agree_right f g (in_targets (targets_of q)) (qual_aggregates (qual_of q)) h) i) es)

pub given_plain : (f g : Aggs) (q : Query) (es : List Env) → query_aggregates q ≡ [] → rows_given f q es ≡ rows_given g q es
given_plain f g q es none = given_agree f g q es (λ a inside. absurd (subst (In a) none inside))
