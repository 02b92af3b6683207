use Rattle.tree_laws.proofs.FitTree.{fit_put_in, fit_ruled}
use Rattle.tree_laws.proofs.fitness.what_is_put_in_is_fit.Goals as goal

pub returns : goal.returns
returns c = record { plain = fit_put_in; ruled = fit_ruled }
