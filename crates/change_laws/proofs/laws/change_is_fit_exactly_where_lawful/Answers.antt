use Rattle.change_laws.proofs.Exactly.{fits_exactly}
use Rattle.change_laws.proofs.laws.change_is_fit_exactly_where_lawful.Goals as goal

pub returns : goal.returns
returns c = fits_exactly
