use Rattle.session_laws.proofs.Stopped.{stop_broken, stop_cut, stop_keeps_up, stop_partly}
use Rattle.session_laws.proofs.stopping.what_was_read_was_printed.Goals as goal

pub returns-clause-front : goal.returns-clause-front
returns-clause-front c user capacity turns numbers heard r old after fault t s = stop_partly user capacity turns numbers heard r old after fault t s

pub returns-clause-keeps_up : goal.returns-clause-keeps_up
returns-clause-keeps_up c user capacity turns numbers heard r old after fault t s = stop_keeps_up user capacity turns numbers heard r old after fault t s

pub returns-clause-broken : goal.returns-clause-broken
returns-clause-broken c user capacity turns numbers heard r old after t s = stop_broken user capacity turns numbers heard r old after t s

pub returns-clause-cut : goal.returns-clause-cut
returns-clause-cut c user capacity k read turns numbers heard r old mid after now t runs before small s behind = stop_cut user capacity k 16777216 read turns numbers heard r old mid after now t runs before small s behind
