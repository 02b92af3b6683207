-- The expansions of a query's variables have no more variables than the query has once the views in it are expanded.
use Rattle.std.proofs.Common.{◌≡◌, ℕ, ◌+◌, ◌≤◌, Bool, true, false, cond, List, [], ◌∷◌, filter, length, length-append, arith}
use Rattle.std.specs.List.{enumerate_from, sum_by}
use Rattle.std.proofs.lemmas.List.Sums.{sum_by-cons}
use Rattle.calculus.specs.declared.query.RelKey.{RelKey}
use Rattle.calculus.specs.declared.query.Query.{Query}
use Rattle.calculus.specs.Who.{Who}
use Rattle.calculus.specs.Database.{Db}
use Rattle.calculus.specs.Lists.{is_any}
use Rattle.calculus.specs.Used.{used_in_query}
use Rattle.calculus.specs.QueryParts.{vars_of}
use Rattle.calculus.specs.Sizes.{Known, Measure, plain_measure, range_measure, measure_within, query_measure}
use Rattle.calculus_laws.proofs.Through.{Said, CarriesBoth, both_said}
use Rattle.view_text.specs.declared.expansion.Expansion.{Expansion}
use Rattle.view_text.specs.Expansions.{ExpansionSource, used_expansion, query_expansions, expansions_vars}
use Rattle.view_text.specs.ExpansionOf.{range_expansion, view_text, past_expansion, expansion_within}
use Rattle.view_expand.specs.Listed.{expansions_at, variables_at}

-- ---- one variable more

amount_step : (b : Bool) (x : ℕ × RelKey) (xs : List (ℕ × RelKey)) (f : ℕ × RelKey → ℕ) → sum_by f (cond b (x ∷ xs) xs) ≡ cond b (f x) 0 + sum_by f xs
amount_step true x xs f = sum_by-cons f x xs
amount_step false x xs f = omega arith

pub variables_next : (known : Known) (q : Query) (n : ℕ) (key : RelKey) (keys : List RelKey)
    → variables_at known q n (key ∷ keys) ≡ cond (is_any (used_in_query n q)) (known key).variables 0 + variables_at known q (n + 1) keys
variables_next known q n key keys =
    amount_step (is_any (used_in_query n q)) (n, key) (filter (λ p. is_any (used_in_query p.0 q)) (enumerate_from (n + 1) keys)) (λ p. (known p.1).variables)

used_few : (source : ExpansionSource) (known : Known) (key : RelKey) (attrs : List ℕ) → ((attrs : List ℕ) → length (source key attrs).vars ≤ (known key).variables)
    → length (used_expansion source key attrs).vars ≤ cond (is_any attrs) (known key).variables 0
used_few source known key [] h = omega arith
used_few source known key (a ∷ attrs) h = h (a ∷ attrs)

pub few_at : (source : ExpansionSource) (known : Known) → ((key : RelKey) (attrs : List ℕ) → length (source key attrs).vars ≤ (known key).variables)
    → (q : Query) (n : ℕ) (keys : List RelKey) → length (expansions_vars (expansions_at source q n keys)) ≤ variables_at known q n keys
few_at source known h q n [] = omega arith
few_at source known h q n (key ∷ keys) =
    let expansion : Expansion = used_expansion source key (used_in_query n q) in
    let e = length-append expansion.vars (expansions_vars (expansions_at source q (n + 1) keys)) in
    let here = used_few source known key (used_in_query n q) (h key) in
    let later = few_at source known h q (n + 1) keys in
    let next = variables_next known q n key keys in
    omega (arith, e, here, later, next)

pub query_few : (source : ExpansionSource) (known : Known) → ((key : RelKey) (attrs : List ℕ) → length (source key attrs).vars ≤ (known key).variables)
    → (q : Query) → length (expansions_vars (query_expansions source q)) ≤ (query_measure known q).variables
query_few source known h q = few_at source known h q 0 (vars_of q)

-- ---- through levels of views

abbrev expansion_said : Db → Who → Said (List ℕ → Expansion)
expansion_said db who = record {
  of_range = λ of_view key range attrs. range_expansion (λ view. of_view view attrs) db who key attrs range;
  of_view = λ below view attrs. view_text below view;
  past = λ attrs. past_expansion;
}

abbrev measure_said : Said Measure
measure_said = record { of_range = λ of_view key range. range_measure of_view range; of_view = λ below view. query_measure below view.query; past = plain_measure }

few_carried : (db : Db) (who : Who) → CarriesBoth (expansion_said db who) measure_said db (λ n key expansion measure. (attrs : List ℕ) → length (expansion attrs).vars ≤ measure.variables)
few_carried db who = record {
  nothing = λ n f g key e attrs. omega arith;
  kept = λ n f g key relation e attrs. omega arith;
  view_past = λ key view e attrs. omega arith;
  view_above = λ n f g h key view e attrs. query_few f g h view.query;
}

-- the expansion of what stands under a key has no more variables than are measured there
pub few_known : (db : Db) (who : Who) (n : ℕ) (key : RelKey) (attrs : List ℕ) → length (expansion_within n db who key attrs).vars ≤ (measure_within n db key).variables
few_known db who n key attrs =
    both_said (expansion_said db who) measure_said db (λ n key expansion measure. (attrs : List ℕ) → length (expansion attrs).vars ≤ measure.variables) (few_carried db who) n key attrs

-- so the expansions of a query's variables have no more than the query once expanded
pub expansions_few : (db : Db) (who : Who) (n : ℕ) (q : Query) → length (expansions_vars (query_expansions (expansion_within n db who) q)) ≤ (query_measure (measure_within n db) q).variables
expansions_few db who n q = query_few (expansion_within n db who) (measure_within n db) (few_known db who n) q

pub vars_before : (expansion : Expansion) (expansions : List Expansion) → length (expansions_vars (expansion ∷ expansions)) ≡ length expansion.vars + length (expansions_vars expansions)
vars_before expansion expansions = length-append expansion.vars (expansions_vars expansions)
