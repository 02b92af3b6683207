use Rattle.calculus_laws.proofs.OwnLevel.{own_level}
use Rattle.calculus_laws.proofs.levels.its_own_level_is_enough.Goals as goal

pub returns : goal.returns
returns c = own_level
