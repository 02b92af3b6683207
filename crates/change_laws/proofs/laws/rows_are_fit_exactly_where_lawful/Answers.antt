use Rattle.change_laws.proofs.RowsFit.{rows_fit_exactly}
use Rattle.change_laws.proofs.laws.rows_are_fit_exactly_where_lawful.Goals as goal

pub returns : goal.returns
returns c = rows_fit_exactly
