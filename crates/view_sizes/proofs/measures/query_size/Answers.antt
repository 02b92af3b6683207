use Rattle.std.proofs.Common.{◌∙◌}
use Rattle.view_sizes.proofs.Measuring.{size_held}
use Rattle.view_sizes.proofs.measures.query_size.Goals as goal

pub returns-clause-known : goal.returns-clause-known
returns-clause-known g c = λ db h few. c.size.ensures ∙ size_held db c.args.query.now c.in_ok-measure.measure (c.in_ok-measure.ensures.known db h few)
