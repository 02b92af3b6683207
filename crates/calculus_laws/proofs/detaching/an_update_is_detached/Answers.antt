use Rattle.calculus_laws.proofs.Detached.{update_detached}
use Rattle.calculus_laws.proofs.detaching.an_update_is_detached.Goals as goal

pub returns : goal.returns
returns c = update_detached
