use Rattle.change_laws.proofs.Created.{relation_fits_exactly}
use Rattle.change_laws.proofs.laws.relation_is_fit_exactly_where_lawful.Goals as goal

pub returns : goal.returns
returns c = relation_fits_exactly
