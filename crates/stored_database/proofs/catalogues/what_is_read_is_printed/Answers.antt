use Rattle.stored_database.proofs.catalogues.what_is_read_is_printed.Goals as goal
use Rattle.stored_database.proofs.FilesAgain as lemmas

pub returns : goal.returns
returns c = lemmas.what_is_read_is_printed
