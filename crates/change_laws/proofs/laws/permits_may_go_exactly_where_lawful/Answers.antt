use Rattle.change_laws.proofs.Dropped.{permits_dropped}
use Rattle.change_laws.proofs.laws.permits_may_go_exactly_where_lawful.Goals as goal

pub returns : goal.returns
returns c = permits_dropped
