use Rattle.std.proofs.Common.{ap, ◌∙◌}
use Rattle.aggregates.specs.Settled.{none_over}
use Rattle.aggregates.proofs.kinds.none_value.Goals as goal

pub returns-clause-known : goal.returns-clause-known
returns-clause-known g c = λ db h. c.in_ok-none_over.ensures ∙ ap (none_over c.args.agg.now.arg) (c.in_ok-kinds.ensures.known db (g.B.Base.own c.args.base.now db h))
