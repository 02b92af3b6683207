use Rattle.plan_laws.proofs.ViewMade.{view_planned}
use Rattle.plan_laws.proofs.views.a_new_view_is_lawful.Goals as goal

pub returns : goal.returns
returns c = view_planned
