use Rattle.quel_network.specs.Quel.{quel}
use Rattle.net_core.proofs.Turning.{stops_behind}
use Rattle.net_core.proofs.turns.a_run_stops_behind_another.Goals as goal

pub returns : goal.returns
returns c user capacity first second numbers heard old mid after fault run whole stops = stops_behind (quel user) capacity first second numbers heard old mid after fault run whole stops
