use Rattle.std.proofs.Common.{◌≡◌, ◌∙◌, ap, subst, Bool, map, ◌&&◌}
use Rattle.std.specs.Prelude.{IfOk}
use Rattle.std.specs.List.{list_all}
use Rattle.quel_meaning.specs.FitQueries.{kept_alone, slots_count_from, source_fits}
use Rattle.tree_check.proofs.ReadParts.{over_aggregates}
use Rattle.tree_check.proofs.reading.aggregates_fit.Goals as goal

pub returns-clause-known : goal.returns-clause-known
returns-clause-known g c = λ db h.
    subst (λ (b : Bool). IfOk c.aggregates_are_fit.result (λ fit. fit ≡ b))
    (ap (λ gs. slots_count_from 0 (map (λ g. g.now) gs) && list_all (λ g. source_fits (kept_alone db) db g.now.source) gs) c.deref.ensures.value
    ∙ over_aggregates (λ g. g.now) db c.args.q.now c.in_ok-aggregates.aggregates.items c.in_ok-aggregates.ensures)
    (c.aggregates_are_fit.ensures.known db h)
