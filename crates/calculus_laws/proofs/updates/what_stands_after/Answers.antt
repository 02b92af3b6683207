use Rattle.calculus_laws.proofs.After.{what_stands_after}
use Rattle.calculus_laws.proofs.updates.what_stands_after.Goals as goal

pub returns : goal.returns
returns c = what_stands_after
