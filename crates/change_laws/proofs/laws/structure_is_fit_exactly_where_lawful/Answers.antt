use Rattle.change_laws.proofs.Restructured.{structure_fits_exactly}
use Rattle.change_laws.proofs.laws.structure_is_fit_exactly_where_lawful.Goals as goal

pub returns : goal.returns
returns c = structure_fits_exactly
