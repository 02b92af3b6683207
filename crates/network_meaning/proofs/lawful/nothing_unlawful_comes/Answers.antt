use Rattle.network_meaning.proofs.Frames.{long_may_be_cut}
use Rattle.network_meaning.proofs.NothingUnlawful.{fit_work, lawful}
use Rattle.network_meaning.proofs.lawful.nothing_unlawful_comes.Goals as goal

pub returns-clause-takes : goal.returns-clause-takes
returns-clause-takes g c user k n frame o comes = lawful (g.T.Spoken.language user) (g.T.Spoken.obeys user) k n frame o comes

pub returns-clause-long : goal.returns-clause-long
returns-clause-long g c user first later m le e = long_may_be_cut (g.T.Spoken.language user) (g.T.Spoken.obeys user) first later m le e

pub returns-clause-works : goal.returns-clause-works
returns-clause-works g c user k n o = fit_work (g.T.Spoken.language user) k n o
