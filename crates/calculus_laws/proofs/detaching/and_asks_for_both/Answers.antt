use Rattle.calculus_laws.proofs.Detached.{left_and, right_and}
use Rattle.calculus_laws.proofs.detaching.and_asks_for_both.Goals as goal

pub returns : goal.returns
returns c = record { left = left_and; right = right_and }
