use Rattle.network_meaning.proofs.Leading.{runs_lead, runs_on}
use Rattle.network_meaning.proofs.rounds.turns_lead_on.Goals as goal

pub returns-clause-leads : goal.returns-clause-leads
returns-clause-leads g c user W wl capacity turns old new runs = runs_lead (g.T.Spoken.language user) (g.T.Spoken.obeys user) W wl capacity turns old new runs

pub returns-clause-both : goal.returns-clause-both
returns-clause-both g c user capacity first second old mid new = runs_on (g.T.Spoken.language user) capacity first second old mid new
