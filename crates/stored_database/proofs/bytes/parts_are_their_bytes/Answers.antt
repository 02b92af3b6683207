use Rattle.stored_database.proofs.bytes.parts_are_their_bytes.Goals as goal
use Rattle.stored_database.proofs.PartBytes as lemmas

pub returns : goal.returns
returns c = lemmas.parts_are_their_bytes
