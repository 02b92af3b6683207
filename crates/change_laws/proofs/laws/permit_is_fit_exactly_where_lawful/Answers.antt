use Rattle.change_laws.proofs.NewNumbers.{permit_fits_exactly}
use Rattle.change_laws.proofs.laws.permit_is_fit_exactly_where_lawful.Goals as goal

pub returns : goal.returns
returns c = permit_fits_exactly
