use Rattle.stored_database.proofs.denoting.headers_are_their_bytes.Goals as goal
use Rattle.stored_database.proofs.Exactly as lemmas

pub returns : goal.returns
returns c = lemmas.headers_are_their_bytes
