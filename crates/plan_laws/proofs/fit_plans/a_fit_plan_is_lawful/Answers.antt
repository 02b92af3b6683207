use Rattle.plan_laws.proofs.FitUtilities.{fitting_plan_lawful}
use Rattle.plan_laws.proofs.fit_plans.a_fit_plan_is_lawful.Goals as goal

pub returns : goal.returns
returns c = fitting_plan_lawful
