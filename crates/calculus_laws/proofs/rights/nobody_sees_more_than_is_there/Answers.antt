use Rattle.calculus_laws.proofs.Fewer.{has_fewer, answer_fewer}
use Rattle.calculus_laws.proofs.rights.nobody_sees_more_than_is_there.Goals as goal

pub returns : goal.returns
returns c = record { variable = has_fewer; query = answer_fewer }
