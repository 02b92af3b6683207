use Rattle.change_laws.proofs.ViewFit.{view_fits_exactly}
use Rattle.change_laws.proofs.laws.view_is_fit_exactly_where_lawful.Goals as goal

pub returns : goal.returns
returns c = view_fits_exactly
