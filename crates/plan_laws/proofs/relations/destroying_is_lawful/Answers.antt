use Rattle.plan_laws.proofs.Destroyed.{destroyed_planned}
use Rattle.plan_laws.proofs.relations.destroying_is_lawful.Goals as goal

pub returns : goal.returns
returns c = destroyed_planned
