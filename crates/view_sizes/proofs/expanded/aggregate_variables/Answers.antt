use Rattle.std.proofs.Common.{◌≡◌, ◌-◌, ◌^◌, subst, ap, ◌∙◌, map, min}
use Rattle.std.specs.Prelude.{IfOk}
use Rattle.calculus.specs.QueryParts.{query_aggregates}
use Rattle.calculus.specs.Sizes.{measure_within}
use Rattle.view_sizes.proofs.Enlarged.{few_of, sum_of_all}
use Rattle.view_sizes.proofs.expanded.aggregate_variables.Goals as goal

pub returns-clause-known : goal.returns-clause-known
returns-clause-known g c = λ db h all few.
    let are : map (λ g. g.now) c.deref.result.now ≡ query_aggregates c.args.query.now = ap (map (λ g. g.now)) c.deref.ensures.value ∙ c.in_ok-aggregates.ensures in
    subst (λ v. IfOk c.variables_of_all.result (λ n. n ≡ min v (2 ^ 64 - 1))) (sum_of_all (measure_within 16 db) (λ g. g.now) c.deref.result.now c.args.query.now are)
    (c.variables_of_all.ensures.known db h all (few_of (λ g. g.now) c.deref.result.now c.args.query.now are few))
