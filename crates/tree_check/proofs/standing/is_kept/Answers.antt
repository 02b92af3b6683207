use Rattle.std.proofs.Common.{◌∙◌, ap}
use Rattle.tree_check.specs.Standing.{is_kept_info}
use Rattle.tree_check.proofs.Known.{kept_known}
use Rattle.tree_check.proofs.standing.is_kept.Goals as goal

pub returns-clause-known : goal.returns-clause-known
returns-clause-known g c = λ db h.
    c.is_kept_info.ensures ∙ ap is_kept_info (c.in_ok-info.ensures.known db h) ∙ kept_known db (g.B.Base.lawful c.args.base.now db h) c.args.key.now
