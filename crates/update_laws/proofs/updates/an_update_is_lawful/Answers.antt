use Rattle.update_laws.proofs.Fitted.{fit_update_lawful}
use Rattle.update_laws.proofs.updates.an_update_is_lawful.Goals as goal

pub returns : goal.returns
returns c = fit_update_lawful
