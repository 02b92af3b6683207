use Rattle.change_laws.proofs.IndexFit.{index_fits_exactly}
use Rattle.change_laws.proofs.laws.index_is_fit_exactly_where_lawful.Goals as goal

pub returns : goal.returns
returns c = index_fits_exactly
