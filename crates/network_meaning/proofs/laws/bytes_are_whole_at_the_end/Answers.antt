use Rattle.network_meaning.proofs.Ends.{start_bytes, start_orderly, whole_at_end}
use Rattle.network_meaning.proofs.laws.bytes_are_whole_at_the_end.Goals as goal

pub returns-clause-start : goal.returns-clause-start
returns-clause-start g c user m ranges room = (start_orderly (g.T.Spoken.language user) m ranges room, start_bytes (g.T.Spoken.language user) m ranges room)

pub returns-clause-end : goal.returns-clause-end
returns-clause-end g c user n o e = whole_at_end (g.T.Spoken.language user) n o e
