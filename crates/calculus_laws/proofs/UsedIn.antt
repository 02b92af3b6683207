-- The query that a view is put into uses what the view's text uses.
use Rattle.std.proofs.Common.{◌≡◌, refl, ap, subst, inl, inr, ℕ, zero, suc, List, [], ◌∷◌, ◌++◌}
use Rattle.std.specs.List.{flat_map}
use Rattle.calculus.specs.declared.query.QTerm.{QTerm, Int, Chars, Attr, Agg', Row_of-QAgg, end_of-QAgg, more_of-QAgg}
use Rattle.calculus.specs.declared.query.QQual.{QQual, True, Cmp, Like}
use Rattle.calculus.specs.declared.query.Target.{Target}
use Rattle.calculus.specs.declared.query.Query.{Query, items-the_row-Target}
use Rattle.calculus.specs.declared.query.RelKey.{RelKey}
use Rattle.calculus.specs.Tree.{neg, abs, operation, concat, both, either, negated, target_row, query}
use Rattle.calculus.specs.QueryParts.{aggregates_of, term_aggregates, qual_aggregates, query_aggregates, vars_of, targets_of, qual_of}
use Rattle.calculus.specs.Used.{used, used_in_links, used_in_qual, used_in_query}
use Rattle.calculus_laws.specs.Expansion.{term_at, substituted_attribute, substituted, substituted_qual, substituted_targets, have_values, expanded}
use Rattle.calculus_laws.proofs.Members.{In, Within, In-append_left, In-append_right, append-In}
use Rattle.calculus_laws.proofs.Plain.{none_left, none_right, in_targets}

-- the targets of a query that is made of these
pub targets_of-query : (vars : List RelKey) (ts : List Target) (p : QQual) → targets_of (query vars ts p) ≡ ts
targets_of-query vars ts p = items ts
  where
    items : (ts : List Target) → items-the_row-Target _ (target_row ts) ≡ ts
    items [] = refl
    items (t ∷ ts) = ap (λ more. t ∷ more) (items ts)

pub targets_of-expanded : (view q : Query) → targets_of (expanded view q) ≡ substituted_targets (targets_of view) (targets_of q)
targets_of-expanded view q = targets_of-query (vars_of view) (substituted_targets (targets_of view) (targets_of q)) (qual_of (expanded view q))

-- the attributes of a variable that these targets use
abbrev pub used_in_targets : ℕ → List Target → List ℕ
used_in_targets v ts = flat_map (λ t. used v t.term) ts

-- ---- what was put into uses what the targets use

within_both : (xs ys zs : List ℕ) → Within xs zs → Within ys zs → Within (xs ++ ys) zs
within_both xs ys zs f g a h = elim (append-In xs ys a h) [ inl k ↦ f a k | inr k ↦ g a k ]

at_within : (v : ℕ) (targets : List Target) (place : ℕ) → Within (used v (term_at targets place)) (used_in_targets v targets)
at_within v [] place a h = absurd h
at_within v (t ∷ ts) zero a h = In-append_left (used v t.term) (used_in_targets v ts) a h
at_within v (t ∷ ts) (suc place) a h = In-append_right (used v t.term) (used_in_targets v ts) a (at_within v ts place a h)

attribute_within : (v : ℕ) (targets : List Target) (var attr : ℕ) → Within (used v (substituted_attribute targets var attr)) (used_in_targets v targets)
attribute_within v targets zero attr a h = at_within v targets attr a h
attribute_within v targets (suc var) attr a h = absurd h

links_within : (v : ℕ) {n : _} (items : Row_of-QAgg n) (all : List ℕ) → aggregates_of items ≡ [] → Within (used_in_links v items) all
links_within v end_of-QAgg all h a k = absurd k
links_within v (more_of-QAgg slot op source arg bys by links link qual rest) all h a k = cc h

substituted_within : (v : ℕ) (targets : List Target) (t : QTerm) → term_aggregates t ≡ [] → Within (used v (substituted targets t)) (used_in_targets v targets)
unfolding term_aggregates
substituted_within v targets (Int n) plain a h = absurd h
substituted_within v targets (Chars bytes) plain a h = absurd h
substituted_within v targets (Attr var attr) plain a h = attribute_within v targets var attr a h
substituted_within v targets (neg t) plain a h = substituted_within v targets t plain a h
substituted_within v targets (abs t) plain a h = substituted_within v targets t plain a h
substituted_within v targets (operation op t u) plain a h = within_both (used v (substituted targets t)) (used v (substituted targets u)) (used_in_targets v targets)
    (substituted_within v targets t (none_left (term_aggregates t) (term_aggregates u) plain))
    (substituted_within v targets u (none_right (term_aggregates t) (term_aggregates u) plain)) a h
substituted_within v targets (concat t u) plain a h = within_both (used v (substituted targets t)) (used v (substituted targets u)) (used_in_targets v targets)
    (substituted_within v targets t (none_left (term_aggregates t) (term_aggregates u) plain))
    (substituted_within v targets u (none_right (term_aggregates t) (term_aggregates u) plain)) a h
substituted_within v targets (Agg' mark items) plain a h = links_within v items (used_in_targets v targets) plain a h

qual_within : (v : ℕ) (targets : List Target) (q : QQual) → qual_aggregates q ≡ [] → Within (used_in_qual v (substituted_qual targets q)) (used_in_targets v targets)
unfolding qual_aggregates
qual_within v targets True plain a h = absurd h
qual_within v targets (Cmp op t u) plain a h = within_both (used v (substituted targets t)) (used v (substituted targets u)) (used_in_targets v targets)
    (substituted_within v targets t (none_left (term_aggregates t) (term_aggregates u) plain))
    (substituted_within v targets u (none_right (term_aggregates t) (term_aggregates u) plain)) a h
qual_within v targets (Like t pattern same) plain a h = substituted_within v targets t plain a h
qual_within v targets (both p q) plain a h = within_both (used_in_qual v (substituted_qual targets p)) (used_in_qual v (substituted_qual targets q)) (used_in_targets v targets)
    (qual_within v targets p (none_left (qual_aggregates p) (qual_aggregates q) plain))
    (qual_within v targets q (none_right (qual_aggregates p) (qual_aggregates q) plain)) a h
qual_within v targets (either p q) plain a h = within_both (used_in_qual v (substituted_qual targets p)) (used_in_qual v (substituted_qual targets q)) (used_in_targets v targets)
    (qual_within v targets p (none_left (qual_aggregates p) (qual_aggregates q) plain))
    (qual_within v targets q (none_right (qual_aggregates p) (qual_aggregates q) plain)) a h
qual_within v targets (negated p) plain a h = qual_within v targets p plain a h

targets_within : (v : ℕ) (targets ts : List Target) → in_targets ts ≡ [] → Within (used_in_targets v (substituted_targets targets ts)) (used_in_targets v targets)
targets_within v targets [] plain a h = absurd h
targets_within v targets (t ∷ ts) plain a h = within_both (used v (substituted targets t.term)) (used_in_targets v (substituted_targets targets ts)) (used_in_targets v targets)
    (substituted_within v targets t.term (none_left (term_aggregates t.term) (in_targets ts) plain))
    (targets_within v targets ts (none_right (term_aggregates t.term) (in_targets ts) plain)) a h

-- ---- to require values of the targets is to use what they use

needed_within : (v : ℕ) (ts : List Target) → Within (used_in_qual v (have_values ts)) (used_in_targets v ts)
needed_within v [] a h = absurd h
needed_within v (t ∷ ts) a h = within_both (used v t.term ++ used v t.term) (used_in_qual v (have_values ts)) (used_in_targets v (t ∷ ts))
    (within_both (used v t.term) (used v t.term) (used_in_targets v (t ∷ ts))
    (In-append_left (used v t.term) (used_in_targets v ts)) (In-append_left (used v t.term) (used_in_targets v ts)))
    (λ b k. In-append_right (used v t.term) (used_in_targets v ts) b (needed_within v ts b k)) a h

within_needed : (v : ℕ) (ts : List Target) → Within (used_in_targets v ts) (used_in_qual v (have_values ts))
within_needed v [] a h = absurd h
within_needed v (t ∷ ts) a h = within_both (used v t.term) (used_in_targets v ts) (used_in_qual v (have_values (t ∷ ts)))
    (λ b k. In-append_left (used v t.term ++ used v t.term) (used_in_qual v (have_values ts)) b (In-append_left (used v t.term) (used v t.term) b k))
    (λ b k. In-append_right (used v t.term ++ used v t.term) (used_in_qual v (have_values ts)) b (within_needed v ts b k)) a h

-- ---- the view's text and what it was put into use the same attributes

pub expanded_within : (v : ℕ) (view q : Query) → query_aggregates q ≡ [] → Within (used_in_query v (expanded view q)) (used_in_query v view)
expanded_within v view q plain a h =
    within_both puts (filled ++ (own ++ needed)) (taken ++ own) (λ b k. from_taken b (targets_within v (targets_of view) (targets_of q) (none_left (in_targets (targets_of q)) (qual_aggregates (qual_of q)) plain) b k))
    (within_both filled (own ++ needed) (taken ++ own)
    (λ b k. from_taken b (qual_within v (targets_of view) (qual_of q) (none_right (in_targets (targets_of q)) (qual_aggregates (qual_of q)) plain) b k))
    (within_both own needed (taken ++ own) (In-append_right taken own) (λ b k. from_taken b (needed_within v (targets_of view) b k))))
    a (subst (λ ts. In a (used_in_targets v ts ++ (filled ++ (own ++ needed)))) (targets_of-expanded view q) h)
  where
    puts : List ℕ
    puts = used_in_targets v (substituted_targets (targets_of view) (targets_of q))

    filled : List ℕ
    filled = used_in_qual v (substituted_qual (targets_of view) (qual_of q))

    taken : List ℕ
    taken = used_in_targets v (targets_of view)

    own : List ℕ
    own = used_in_qual v (qual_of view)

    needed : List ℕ
    needed = used_in_qual v (have_values (targets_of view))

    from_taken : Within taken (taken ++ own)
    from_taken = In-append_left taken own

pub within_expanded : (v : ℕ) (view q : Query) → Within (used_in_query v view) (used_in_query v (expanded view q))
within_expanded v view q a h =
    In-append_right (used_in_targets v (targets_of (expanded view q))) (filled ++ (own ++ needed)) a
    (In-append_right filled (own ++ needed) a
    (within_both (used_in_targets v (targets_of view)) own (own ++ needed)
    (λ b k. In-append_right own needed b (within_needed v (targets_of view) b k)) (In-append_left own needed) a h))
  where
    filled : List ℕ
    filled = used_in_qual v (substituted_qual (targets_of view) (qual_of q))

    own : List ℕ
    own = used_in_qual v (qual_of view)

    needed : List ℕ
    needed = used_in_qual v (have_values (targets_of view))
