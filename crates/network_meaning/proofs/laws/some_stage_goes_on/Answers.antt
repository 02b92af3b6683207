use Rattle.network_meaning.proofs.Progress.{progress}
use Rattle.network_meaning.proofs.Whole.{lowers}
use Rattle.network_meaning.proofs.laws.some_stage_goes_on.Goals as goal

pub returns-clause-goes : goal.returns-clause-goes
returns-clause-goes g c user capacity n le o = progress (g.T.Spoken.language user) capacity n o.phase le o.shows

pub returns-clause-lowers : goal.returns-clause-lowers
returns-clause-lowers g c user W wl k n new o st = lowers (g.T.Spoken.language user) (g.T.Spoken.obeys user) W wl k n new o st
