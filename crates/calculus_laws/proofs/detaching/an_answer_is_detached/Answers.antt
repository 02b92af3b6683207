use Rattle.calculus_laws.proofs.Detached.{answer_detached}
use Rattle.calculus_laws.proofs.detaching.an_answer_is_detached.Goals as goal

pub returns : goal.returns
returns c = answer_detached
