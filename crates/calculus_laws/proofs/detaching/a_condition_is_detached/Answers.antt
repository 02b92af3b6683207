use Rattle.calculus_laws.proofs.Detached.{condition_detached}
use Rattle.calculus_laws.proofs.detaching.a_condition_is_detached.Goals as goal

pub returns : goal.returns
returns c = condition_detached
