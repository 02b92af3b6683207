use Rattle.net_core.proofs.Readers.{holds_none}
use Rattle.net_core.proofs.incoming.Incoming.new.Goals as goal

pub returns : goal.returns
returns c = holds_none c.new.result c.new.ensures
