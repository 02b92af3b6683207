use Rattle.std.proofs.Common.{refl}
use Rattle.network_meaning.specs.Network.{as_messages}
use Rattle.network_meaning.proofs.StatementsPlaces.{left_stands}
use Rattle.network_meaning.proofs.StatementsRuns.{runs_finish}
use Rattle.network_meaning.proofs.StatementsWhole.{finishes, none_at_end}
use Rattle.network_meaning.proofs.statements.statements_are_finished_in_order.Goals as goal

pub returns-clause-step : goal.returns-clause-step
returns-clause-step g c user capacity k n new o st = finishes (g.T.Spoken.language user) (g.T.Spoken.obeys user) capacity k n new o st

pub returns-clause-turns : goal.returns-clause-turns
returns-clause-turns g c user capacity turns old new runs = runs_finish (g.T.Spoken.language user) (g.T.Spoken.obeys user) capacity turns old new runs

pub returns-clause-places : goal.returns-clause-places
returns-clause-places g c user n = left_stands (g.T.Spoken.language user) (g.T.Spoken.obeys user) (as_messages (g.T.Spoken.language user) n)

pub returns-clause-start : goal.returns-clause-start
returns-clause-start g c user m ranges room = refl

pub returns-clause-end : goal.returns-clause-end
returns-clause-end g c user n o e = none_at_end (g.T.Spoken.language user) n o e
