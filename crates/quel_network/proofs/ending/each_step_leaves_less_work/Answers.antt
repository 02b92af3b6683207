use Rattle.network_meaning.proofs.Whole.{lowers}
use Rattle.quel_network.specs.Laws.{quel_laws}
use Rattle.quel_network.specs.Quel.{quel}
use Rattle.quel_network.specs.Work.{quel_work}
use Rattle.quel_network.specs.WorkLaws.{quel_work_laws}
use Rattle.quel_network.proofs.ending.each_step_leaves_less_work.Goals as goal

pub returns-clause-laws : goal.returns-clause-laws
returns-clause-laws c user = quel_work_laws user

pub returns-clause-steps : goal.returns-clause-steps
returns-clause-steps c user k old new orderly step = lowers (quel user) (quel_laws user) (quel_work user) (quel_work_laws user) k old new orderly step
