use Rattle.std.proofs.Common.{◌∙◌, ap}
use Rattle.calculus.specs.IsDatabase.{attrs_are_targets}
use Rattle.ovqp.proofs.Parts.{targets_is}
use Rattle.change_check.proofs.views.has_targets.Goals as goal

pub returns : goal.returns
returns c = c.attrs_are_targets.ensures ∙ ap (attrs_are_targets c.args.attrs.now) (c.items.ensures ∙ targets_is c.args.query.now)
