use Rattle.std.proofs.Common.{◌≡◌, ◌≤◌, ◌-◌, ◌^◌, sym, subst, ap, ◌∙◌, min, length}
use Rattle.std.specs.Prelude.{IfOk}
use Rattle.calculus.specs.QueryParts.{vars_of}
use Rattle.calculus.specs.Sizes.{measure_within, query_measure, source_variables}
use Rattle.view_sizes.proofs.Enlarged.{rows_few, rows_variables}
use Rattle.view_sizes.proofs.expanded.source_variables.Goals as goal

pub returns-in-Named-clause-known : goal.returns-in-Named-clause-known
returns-in-Named-clause-known g c = λ db h all few.
    subst (λ s. IfOk c.variables_found.result (λ n. n ≡ min (source_variables (measure_within 16 db) s) (2 ^ 64 - 1))) (sym c.in-Named.is) (c.variables_found.ensures.known db h all)

pub returns-in-Rows-clause-known : goal.returns-in-Rows-clause-known
returns-in-Rows-clause-known g c = λ db h all few.
    subst (λ v. IfOk c.variables_through.result (λ n. n ≡ min v (2 ^ 64 - 1)))
    (ap (λ q. (query_measure (measure_within 16 db) q).variables) c.get.ensures ∙ rows_variables (measure_within 16 db) c.args.source.now c.in-Rows.query c.in-Rows.is)
    (c.variables_through.ensures.known db h all (subst (λ q. length (vars_of q) ≤ 256) (sym c.get.ensures) (rows_few c.args.source.now c.in-Rows.query c.in-Rows.is few)))
