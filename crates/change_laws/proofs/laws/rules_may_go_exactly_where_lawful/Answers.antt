use Rattle.change_laws.proofs.Dropped.{rules_dropped}
use Rattle.change_laws.proofs.laws.rules_may_go_exactly_where_lawful.Goals as goal

pub returns : goal.returns
returns c = rules_dropped
