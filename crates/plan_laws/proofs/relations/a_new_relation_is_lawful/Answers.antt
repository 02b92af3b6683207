use Rattle.plan_laws.proofs.Created.{made_lawful, created_planned}
use Rattle.plan_laws.proofs.relations.a_new_relation_is_lawful.Goals as goal

pub returns : goal.returns
returns c = record { rows = made_lawful; empty = created_planned }
