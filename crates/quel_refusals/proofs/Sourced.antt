-- The sources of the aggregates of a statement's query are named.
use Rattle.std.proofs.Common.{◌≡◌, refl, sym, ap, ◌∙◌, subst, ℕ, ◌+◌, true, List, [], ◌∷◌, ◌++◌, append-nil, length}
use Rattle.std.specs.List.{list_all}
use Rattle.std.proofs.lemmas.Grind.{flat_map-append}
use Rattle.calculus.specs.declared.query.QAgg.{QAgg}
use Rattle.calculus.specs.declared.query.Query.{Query}
use Rattle.calculus.specs.declared.query.Target.{Target}
use Rattle.calculus.specs.declared.statement.Item.{Item}
use Rattle.calculus.specs.declared.statement.Item.TheVariants as item
use Rattle.calculus.specs.declared.statement.Qual.{Qual, True, Cmp}
use Rattle.calculus.specs.declared.statement.Statement.{Statement}
use Rattle.calculus.specs.declared.statement.Term.{Term, Int, Chars, Attr, Agg', Row_of-AggTerm, end_of-AggTerm, more_of-AggTerm}
use Rattle.calculus.specs.QueryParts.{query_aggregates, qual_aggregates, term_aggregates}
use Rattle.calculus.specs.Stored.{attrs_in}
use Rattle.calculus.specs.Written.{neg, abs, operation, concat, both, either, negated}
use Rattle.calculus.proofs.Forms.{items_of_targets}
use Rattle.quel_meaning.proofs.Each.{Each, both_of, passed}
use Rattle.quel_meaning.proofs.Slots.{compared_has, in_targets, none_in_attrs}
use Rattle.quel_meaning.specs.Scope.{Scope, ranged}
use Rattle.quel_meaning.specs.WrittenParts.{aggregates_in, aggregates_in_item, aggregates_in_qual, items_of, where_of, vars_in}
use Rattle.quel_meaning.specs.WrittenQuery.{item_targets, query_of, targets_from, where_tree}
use Rattle.quel_meaning.specs.WrittenTree.{Vars, aggregate_tree, qual_tree, term_tree, var_place}
use Rattle.view_sizes.specs.Listing.{source_lists_few, sources_list_few}

abbrev ListsFew : QAgg → Type 0
ListsFew g = source_lists_few g.source ≡ true

of_row : (s : Scope) (vars : Vars) (n : ℕ) → {m : _} → (row : Row_of-AggTerm m) → Each ListsFew (term_aggregates (aggregate_tree s vars n row))
unfolding term_aggregates
of_row s vars n end_of-AggTerm = tt
of_row s vars n (more_of-AggTerm op arg bys by qual rest) = (refl, tt)

of_term : (s : Scope) (vars : Vars) (n : ℕ) (t : Term) → Each ListsFew (term_aggregates (term_tree s vars n t))
unfolding term_aggregates
of_term s vars n (Int number) = tt
of_term s vars n (Chars bytes) = tt
of_term s vars n (Attr var attr) = tt
of_term s vars n (neg t) = of_term s vars n t
of_term s vars n (abs t) = of_term s vars n t
of_term s vars n (operation op t u) = both_of _ (term_aggregates (term_tree s vars n t)) _ (of_term s vars n t) (of_term s vars (n + length (aggregates_in t)) u)
of_term s vars n (concat t u) = both_of _ (term_aggregates (term_tree s vars n t)) _ (of_term s vars n t) (of_term s vars (n + length (aggregates_in t)) u)
of_term s vars n (Agg' mark row) = of_row s vars n row

of_qual : (s : Scope) (vars : Vars) (n : ℕ) (q : Qual) → Each ListsFew (qual_aggregates (qual_tree s vars n q))
unfolding qual_aggregates
of_qual s vars n True = tt
of_qual s vars n (Cmp op t u) =
    subst (Each ListsFew) (sym (compared_has op (term_tree s vars n t) (term_tree s vars (n + length (aggregates_in t)) u)))
    (both_of _ (term_aggregates (term_tree s vars n t)) _ (of_term s vars n t) (of_term s vars (n + length (aggregates_in t)) u))
of_qual s vars n (both p q) = both_of _ (qual_aggregates (qual_tree s vars n p)) _ (of_qual s vars n p) (of_qual s vars (n + length (aggregates_in_qual p)) q)
of_qual s vars n (either p q) = both_of _ (qual_aggregates (qual_tree s vars n p)) _ (of_qual s vars n p) (of_qual s vars (n + length (aggregates_in_qual p)) q)
of_qual s vars n (negated p) = of_qual s vars n p

of_item : (s : Scope) (vars : Vars) (n : ℕ) (i : Item) → Each ListsFew (in_targets (item_targets s vars n i))
unfolding term_aggregates
of_item s vars n (item.Set name term) = subst (Each ListsFew) (sym (append-nil (term_aggregates (term_tree s vars n term)))) (of_term s vars n term)
of_item s vars n (item.Attr var attr) = tt
of_item s vars n (item.All var) = subst (Each ListsFew) (sym (none_in_attrs (var_place vars var) 0 (attrs_in (ranged s var)))) tt

of_items : (s : Scope) (vars : Vars) (n : ℕ) (items : List Item) → Each ListsFew (in_targets (targets_from s vars n items))
of_items s vars n [] = tt
of_items s vars n (i ∷ items) =
    subst (Each ListsFew) (sym (flat_map-append (λ (t : Target). term_aggregates t.term) (item_targets s vars n i) _))
    (both_of _ (in_targets (item_targets s vars n i)) _ (of_item s vars n i) (of_items s vars (n + length (aggregates_in_item i)) items))

named : (s : Scope) (stmt : Statement) → sources_list_few (query_of s stmt) ≡ true
unfolding query_of where_tree
named s stmt =
    passed (λ (g : QAgg). source_lists_few g.source) _
    (subst (λ ts. Each ListsFew (in_targets ts ++ qual_aggregates (where_tree s stmt))) (sym (items_of_targets (targets_from s (vars_in stmt) 0 (items_of stmt))))
    (both_of _ (in_targets (targets_from s (vars_in stmt) 0 (items_of stmt))) _ (of_items s (vars_in stmt) 0 (items_of stmt)) (of_qual s (vars_in stmt) _ (where_of stmt))))

-- no query that is a source in a statement's query lists more variables than there are places
pub few_in_query : (s : Scope) (stmt : Statement) (q : Query) → q ≡ query_of s stmt → sources_list_few q ≡ true
few_in_query s stmt q e = ap sources_list_few e ∙ named s stmt

-- nor does one where there is no aggregate
pub few_of_none : (q : Query) → query_aggregates q ≡ [] → sources_list_few q ≡ true
few_of_none q e = ap (λ gs. list_all (λ (g : QAgg). source_lists_few g.source) gs) e
