use Rattle.std.proofs.Common.{refl}
use Rattle.network_meaning.proofs.FailedWork.{failed_work}
use Rattle.network_meaning.proofs.failing.a_failed_work_writes_a_front.Goals as goal

pub returns-clause-works : goal.returns-clause-works
returns-clause-works g c user k n front o w h = failed_work (g.T.Spoken.language user) (g.T.Spoken.obeys user) k n front o h

pub returns-clause-takes_or_gives : goal.returns-clause-takes_or_gives
returns-clause-takes_or_gives g c user n = (_, refl)
