use Rattle.change_laws.proofs.NewNumbers.{rule_fits_exactly}
use Rattle.change_laws.proofs.laws.rule_is_fit_exactly_where_lawful.Goals as goal

pub returns : goal.returns
returns c = rule_fits_exactly
