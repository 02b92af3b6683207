-- Variables with those of aggregates, where numbers stop at the greatest of 64 bits.
use Rattle.std.proofs.Common.{◌≡◌, refl, sym, ap, ◌∙◌, ℕ, ◌+◌, ◌<◌, ◌≤◌, arith, Bool, true, false, ◌&&◌, List, [], ◌∷◌, map, length, get_or}
use Rattle.std.specs.List.{list_all, sum_by}
use Rattle.std.proofs.lemmas.Bool.{leb-true}
use Rattle.std.proofs.lemmas.List.Folds.{list_all_at}
use Rattle.std.proofs.lemmas.List.Sums.{sum_by-cons}
use Rattle.calculus.proofs.Forms.{rows_is}
use Rattle.calculus.specs.declared.query.AggSource.{AggSource}
use Rattle.calculus.specs.declared.query.AggSource.TheVariants.{Rows}
use Rattle.calculus.specs.declared.query.QAgg.{QAgg}
use Rattle.calculus.specs.declared.query.Query.{Query}
use Rattle.calculus.specs.declared.query.RelKey.{RelKey}
use Rattle.calculus.specs.declared.request.Update.{Update}
use Rattle.calculus.specs.Database.{Db}
use Rattle.calculus.specs.QueryParts.{vars_of, query_aggregates}
use Rattle.calculus.specs.Sizes.{Known, expanded_variables, measure_of, measure_within, query_measure, source_variables, update_expanded_variables, update_vars}
use Rattle.quel_meaning.specs.Passing.{listed_expanded_variables}
use Rattle.view_sizes.specs.Listing.{source_lists_few, sources_list_few}
use Rattle.view_sizes.specs.Measured.{stopped}

-- each of those that all pass does
pub each_at : {X : Type 0} (p : X → Bool) (xs : List X) (i : ℕ) (x : X) → i < length xs → x ≡ get_or xs i x → list_all p xs ≡ true → p x ≡ true
each_at p xs i x h e all = go (p x) refl
  where
    go : (b : Bool) → p x ≡ b → b ≡ true
    go true f = refl
    go false f = let no : false ≡ true = sym (list_all_at p xs i x h (ap p (sym e) ∙ f)) ∙ all in absurd (cc no)

all_mapped : {X Y : Type 0} (p : Y → Bool) (f : X → Y) (xs : List X) → list_all (λ x. p (f x)) xs ≡ list_all p (map f xs)
all_mapped p f [] = refl
all_mapped p f (x ∷ xs) = ap (λ b. p (f x) && b) (all_mapped p f xs)

sum_mapped : {X Y : Type 0} (n : Y → ℕ) (f : X → Y) (xs : List X) → sum_by (λ x. n (f x)) xs ≡ sum_by n (map f xs)
sum_mapped n f [] = refl
sum_mapped n f (x ∷ xs) = sum_by-cons (λ x. n (f x)) x xs ∙ ap (λ m. n (f x) + m) (sum_mapped n f xs) ∙ sym (sum_by-cons n (f x) (map f xs))

-- the sources of these aggregates list few variables where those of the query do that they are of, and count as its do
pub few_of : {X : Type 0} (f : X → QAgg) (gs : List X) (q : Query) → map f gs ≡ query_aggregates q → sources_list_few q ≡ true → list_all (λ g. source_lists_few (f g).source) gs ≡ true
few_of f gs q e h = all_mapped (λ (g : QAgg). source_lists_few g.source) f gs ∙ ap (list_all (λ (g : QAgg). source_lists_few g.source)) e ∙ h

pub sum_of_all : {X : Type 0} (known : Known) (f : X → QAgg) (gs : List X) (q : Query) → map f gs ≡ query_aggregates q
    → sum_by (λ g. source_variables known (f g).source) gs ≡ sum_by (λ (g : QAgg). source_variables known g.source) (query_aggregates q)
sum_of_all known f gs q e = sum_mapped (λ (g : QAgg). source_variables known g.source) f gs ∙ ap (sum_by (λ (g : QAgg). source_variables known g.source)) e

-- a source that is a query lists few variables where that does, and has its variables
pub rows_few : (s : AggSource) (q : Query) → s ≡ Rows q → source_lists_few s ≡ true → length (vars_of q) ≤ 256
rows_few s q e h = leb-true (length (vars_of q)) 256 (sym (ap source_lists_few (e ∙ rows_is q)) ∙ h)

pub rows_variables : (known : Known) (s : AggSource) (q : Query) → s ≡ Rows q → (query_measure known q).variables ≡ source_variables known s
rows_variables known s q e = sym (ap (source_variables known) (e ∙ rows_is q))

both_stopped : (own below r a b : ℕ) → own ≡ stopped a → below ≡ stopped b → r ≡ stopped (own + below) → r ≡ stopped (a + b)
both_stopped own below r a b e f g = omega arith

-- the variables of a query with those of its aggregates
pub expanded_so : (db : Db) (q : Query) (own below r : ℕ) → own ≡ stopped (query_measure (measure_within 16 db) q).variables
    → below ≡ stopped (sum_by (λ (g : QAgg). source_variables (measure_within 16 db) g.source) (query_aggregates q)) → r ≡ stopped (own + below) → r ≡ stopped (expanded_variables db q)
unfolding expanded_variables measure_of
expanded_so db q own below r e f g =
    both_stopped own below r (query_measure (measure_within 16 db) q).variables (sum_by (λ (g : QAgg). source_variables (measure_within 16 db) g.source) (query_aggregates q)) e f g

-- those that it lists
pub listed_so : (db : Db) (q : Query) (vars : List RelKey) (own below r : ℕ) → vars ≡ vars_of q → own ≡ stopped (sum_by (λ key. (measure_within 16 db key).variables) vars)
    → below ≡ stopped (sum_by (λ (g : QAgg). source_variables (measure_within 16 db) g.source) (query_aggregates q)) → r ≡ stopped (own + below) → r ≡ stopped (listed_expanded_variables db q)
unfolding measure_of
listed_so db q vars own below r v e f g =
    both_stopped own below r (sum_by (λ key. (measure_within 16 db key).variables) (vars_of q)) (sum_by (λ (g : QAgg). source_variables (measure_within 16 db) g.source) (query_aggregates q))
    (e ∙ ap (λ vars. stopped (sum_by (λ key. (measure_within 16 db key).variables) vars)) v) f g

-- those of an update
pub update_so : (db : Db) (u : Update) (own below r : ℕ) → own ≡ stopped (sum_by (λ p. (measure_within 16 db p.1).variables) (update_vars u))
    → below ≡ stopped (sum_by (λ (g : QAgg). source_variables (measure_within 16 db) g.source) (query_aggregates u.query)) → r ≡ stopped (own + below) → r ≡ stopped (update_expanded_variables db u)
unfolding update_expanded_variables measure_of
update_so db u own below r e f g =
    both_stopped own below r (sum_by (λ p. (measure_within 16 db p.1).variables) (update_vars u)) (sum_by (λ (g : QAgg). source_variables (measure_within 16 db) g.source) (query_aggregates u.query)) e f g
