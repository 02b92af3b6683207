use Rattle.std.proofs.Common.{refl}
use Rattle.network_meaning.proofs.StatementsWhole.{keeps_end, stopped_at_end}
use Rattle.network_meaning.proofs.laws.each_step_keeps_the_end.Goals as goal

pub returns-clause-step : goal.returns-clause-step
returns-clause-step g c user capacity k n new o st = keeps_end (g.T.Spoken.language user) (g.T.Spoken.obeys user) capacity k n new o st

pub returns-clause-start : goal.returns-clause-start
returns-clause-start g c user m ranges room = refl

pub returns-clause-end : goal.returns-clause-end
returns-clause-end g c user n e o ended ends = stopped_at_end (g.T.Spoken.language user) n o ended e ends
