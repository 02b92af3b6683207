use Rattle.plan_laws.proofs.Replaced.{replaced_lawful}
use Rattle.plan_laws.proofs.rows.another_set_of_rows_is_lawful.Goals as goal

pub returns : goal.returns
returns c = replaced_lawful
