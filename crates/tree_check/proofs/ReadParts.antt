-- What queries and updates read, and what they ask, part by part.
use Rattle.std.proofs.Common.{◌≡◌, refl, ap, ◌∙◌, Bool, true, false, ◌&&◌, nat_le, ◌≤◌, arith, List, [], ◌∷◌, map, length}
use Rattle.std.specs.List.{list_all}
use Rattle.std.proofs.lemmas.Bool.{leb-true, le-leb}
use Rattle.calculus.specs.declared.query.AggSource.{AggSource, Named}
use Rattle.calculus.specs.declared.query.QAgg.{QAgg}
use Rattle.calculus.specs.Tree.{rows_of_query}
use Rattle.quel_meaning.proofs.Each.{left, right}
use Rattle.tree_check.proofs.SourceParts.{all_mapped}
use Rattle.view_sizes.specs.Listing.{source_lists_few, sources_list_few}
use Rattle.calculus.specs.declared.query.Query.{Query}
use Rattle.calculus.specs.declared.request.Update.{Update}
use Rattle.calculus.specs.Database.{Db}
use Rattle.calculus.specs.QueryParts.{vars_of, query_aggregates}
use Rattle.calculus.specs.Sizes.{update_expanded_variables}
use Rattle.quel_meaning.specs.Fit.{update_fits, update_kinds_fit, places_fit, checks_fit, relation_fits}
use Rattle.quel_meaning.specs.KindsInQueries.{assignments_fit}
use Rattle.quel_meaning.specs.FitQueries.{has_few_targets, is_kept, kept_alone, lists_few_vars, reads_fit, slots_count_from, slots_count_up, source_fits, sources_fit}

-- aggregates, as they are gathered, are numbered and over what is kept where the query's are
pub over_aggregates : {X : Type 0} (f : X → QAgg) (db : Db) (q : Query) (xs : List X) → map f xs ≡ query_aggregates q
    → (slots_count_from 0 (map f xs) && list_all (λ (x : X). source_fits (kept_alone db) db (f x).source) xs) ≡ (slots_count_up q && sources_fit (kept_alone db) db q)
over_aggregates f db q xs e =
    λ i. slots_count_from 0 (e i) && (all_mapped (λ (g : QAgg). source_fits (kept_alone db) db g.source) f xs ∙ ap (list_all (λ (g : QAgg). source_fits (kept_alone db) db g.source)) e) i

five : (a b c d e : Bool) → ((d && e) && (a && (c && b))) ≡ (a && (b && (c && (d && e))))
five a b c true true = go a b c
  where
    go : (a b c : Bool) → (a && (c && b)) ≡ (a && (b && (c && true)))
    go true true true = refl
    go true true false = refl
    go true false true = refl
    go true false false = refl
    go false b c = refl
five a b c true false = none a b c
  where
    none : (a b c : Bool) → false ≡ (a && (b && (c && false)))
    none true true true = refl
    none true true false = refl
    none true false c = refl
    none false b c = refl
five a b c false e = none a b c
  where
    none : (a b c : Bool) → false ≡ (a && (b && (c && false)))
    none true true true = refl
    none true true false = refl
    none true false c = refl
    none false b c = refl

-- what a query reads is fit where it is short, its variables are kept, and its aggregates numbered and over what is kept
pub read : (db : Db) (q : Query)
    → ((lists_few_vars q && has_few_targets q) && (list_all (is_kept db) (vars_of q) && (slots_count_up q && sources_fit (kept_alone db) db q))) ≡ reads_fit (kept_alone db) db q
unfolding reads_fit
read db q = five (list_all (is_kept db) (vars_of q)) (sources_fit (kept_alone db) db q) (slots_count_up q) (lists_few_vars q) (has_few_targets q)

-- such a query lists few variables
pub few_listed : (db : Db) (q : Query) → reads_fit (kept_alone db) db q ≡ true → length (vars_of q) ≤ 256
few_listed db q h = go (lists_few_vars q) refl (read db q ∙ h)
  where
    go : (b : Bool) → lists_few_vars q ≡ b → ((b && has_few_targets q) && (list_all (is_kept db) (vars_of q) && (slots_count_up q && sources_fit (kept_alone db) db q))) ≡ true → length (vars_of q) ≤ 256
    go true e k = let few : length (vars_of q) ≤ 50 = leb-true _ _ e in omega (arith, few)
    go false e k = absurd (cc k)

few_source : (db : Db) (source : AggSource) → source_fits (kept_alone db) db source ≡ true → source_lists_few source ≡ true
unfolding source_fits
few_source db (Named key) h = refl
few_source db (rows_of_query q) h =
    let one : length (vars_of q) ≤ 1 = leb-true _ _ (left (nat_le (length (vars_of q)) 1) _ (right (list_all (is_kept db) (vars_of q)) _ h)) in
    le-leb _ _ (omega (arith, one))

few_in : (db : Db) (gs : List QAgg) → list_all (λ (g : QAgg). source_fits (kept_alone db) db g.source) gs ≡ true → list_all (λ (g : QAgg). source_lists_few g.source) gs ≡ true
few_in db [] h = refl
few_in db (g ∷ gs) h =
    λ i. few_source db g.source (left (source_fits (kept_alone db) db g.source) _ h) i && few_in db gs (right (source_fits (kept_alone db) db g.source) _ h) i

-- so do the queries that are sources of its aggregates
pub few_in_sources : (db : Db) (q : Query) → reads_fit (kept_alone db) db q ≡ true → sources_list_few q ≡ true
unfolding reads_fit
few_in_sources db q h =
    few_in db (query_aggregates q) (left (sources_fit (kept_alone db) db q) _ (right (list_all (is_kept db) (vars_of q)) _ h))

seven : (a b c d e f g : Bool) → (a && (b && (d && ((c && (e && f)) && g)))) ≡ (a && (b && (c && (d && (e && (f && g))))))
seven true true true true true f g = refl
seven true true true true false f g = refl
seven true true true false e f g = refl
seven true true false true e f g = refl
seven true true false false e f g = refl
seven true false c d e f g = refl
seven false b c d e f g = refl

-- an update is fit where its parts are, in the order in which they are asked
pub changed : (db : Db) (u : Update)
    → (reads_fit (kept_alone db) db u.query && (update_kinds_fit db u.query && (nat_le (update_expanded_variables db u) 50 && ((assignments_fit db u && (places_fit db u && checks_fit db u)) && relation_fits db u)))) ≡ update_fits (kept_alone db) db u
unfolding update_fits
changed db u =
    seven (reads_fit (kept_alone db) db u.query) (update_kinds_fit db u.query) (assignments_fit db u) (nat_le (update_expanded_variables db u) 50) (places_fit db u) (checks_fit db u) (relation_fits db u)
