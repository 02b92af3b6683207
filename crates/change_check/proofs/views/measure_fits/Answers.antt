use Rattle.std.proofs.Common.{◌∙◌}
use Rattle.view_sizes.proofs.Measuring.{measured_within}
use Rattle.change_check.proofs.views.measure_fits.Goals as goal

pub returns-clause-known : goal.returns-clause-known
returns-clause-known g c = λ db h few none.
    c.is_within.ensures ∙ measured_within db c.args.query.now c.in_ok-measure.measure none (c.in_ok-measure.ensures.known db h few)
