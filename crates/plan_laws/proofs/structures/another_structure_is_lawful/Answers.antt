use Rattle.plan_laws.proofs.Restructured.{structure_planned}
use Rattle.plan_laws.proofs.structures.another_structure_is_lawful.Goals as goal

pub returns : goal.returns
returns c = structure_planned
