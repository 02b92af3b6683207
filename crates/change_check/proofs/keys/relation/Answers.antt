use Rattle.std.proofs.Common.{◌∙◌, ap}
use Rattle.change_check.specs.Kept.{kept_info}
use Rattle.change_check.proofs.Kept.{kept_is}
use Rattle.change_check.proofs.keys.relation.Goals as goal

pub returns-clause-known : goal.returns-clause-known
returns-clause-known g c = λ db e.
    c.kept.ensures ∙ ap kept_info (c.in_ok-entry.ensures.known db e) ∙ kept_is db (g.B.Base.lawful c.args.base.now db e) c.args.key.now
