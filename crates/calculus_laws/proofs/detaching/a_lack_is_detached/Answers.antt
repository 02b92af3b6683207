use Rattle.calculus_laws.proofs.Detached.{lacks_detached}
use Rattle.calculus_laws.proofs.detaching.a_lack_is_detached.Goals as goal

pub returns : goal.returns
returns c = lacks_detached
