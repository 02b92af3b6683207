use Rattle.std.proofs.Common.{ap, ◌∙◌}
use Rattle.std.specs.List.{flat_map}
use Rattle.calculus.specs.Aggregate.{different}
use Rattle.calculus.specs.Rows.{set_of}
use Rattle.aggregates.proofs.Apart.{set_alone, values_alone}
use Rattle.aggregates.proofs.different.different.Goals as goal

pub returns : goal.returns
returns c =
    c.in_ok-values.ensures
    ∙ ap (flat_map (λ row. row)) (c.of_rows-set.ensures ∙ ap set_of c.in_ok-each_alone.ensures ∙ set_alone c.args.values.now)
    ∙ values_alone (different c.args.values.now)
