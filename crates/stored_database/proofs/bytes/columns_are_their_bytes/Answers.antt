use Rattle.stored_database.proofs.bytes.columns_are_their_bytes.Goals as goal
use Rattle.stored_database.proofs.ColumnBytes as lemmas

pub returns : goal.returns
returns c = lemmas.columns_are_their_bytes
