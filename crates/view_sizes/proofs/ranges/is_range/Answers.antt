use Rattle.std.proofs.Common.{◌∙◌, ap}
use Rattle.view_sizes.specs.Standing.{is_ranged}
use Rattle.view_sizes.proofs.Ranged.{range_known}
use Rattle.view_sizes.proofs.ranges.is_range.Goals as goal

pub returns-clause-known : goal.returns-clause-known
returns-clause-known g c = λ db h.
    c.is_ranged.ensures ∙ ap is_ranged (c.in_ok-info.ensures.known db h) ∙ range_known db (g.B.Base.lawful c.args.base.now db h) c.args.key.now
