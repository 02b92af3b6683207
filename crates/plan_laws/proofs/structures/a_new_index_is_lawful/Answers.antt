use Rattle.plan_laws.proofs.NewIndexes.{index_planned}
use Rattle.plan_laws.proofs.structures.a_new_index_is_lawful.Goals as goal

pub returns : goal.returns
returns c = index_planned
