use Rattle.stored_database.proofs.bytes.entries_are_their_bytes.Goals as goal
use Rattle.stored_database.proofs.EntryBytes as lemmas

pub returns : goal.returns
returns c = lemmas.entries_are_their_bytes
