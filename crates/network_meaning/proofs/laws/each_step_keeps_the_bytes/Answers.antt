use Rattle.network_meaning.proofs.Runs.{runs_keeps}
use Rattle.network_meaning.proofs.Whole.{equation}
use Rattle.network_meaning.proofs.laws.each_step_keeps_the_bytes.Goals as goal

pub returns-clause-step : goal.returns-clause-step
returns-clause-step g c user capacity k n new o st = let kept = equation (g.T.Spoken.language user) (g.T.Spoken.obeys user) capacity k n new o st in (kept.orderly, kept.same)

pub returns-clause-turns : goal.returns-clause-turns
returns-clause-turns g c user capacity turns old new runs = runs_keeps (g.T.Spoken.language user) (g.T.Spoken.obeys user) capacity turns old new runs
