use Rattle.change_laws.proofs.Gone.{destroying_fits_exactly}
use Rattle.change_laws.proofs.laws.destroying_is_fit_exactly_where_lawful.Goals as goal

pub returns : goal.returns
returns c = destroying_fits_exactly
