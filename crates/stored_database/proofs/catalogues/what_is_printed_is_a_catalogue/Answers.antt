use Rattle.stored_database.proofs.catalogues.what_is_printed_is_a_catalogue.Goals as goal
use Rattle.stored_database.proofs.PrintedStands as lemmas

pub returns : goal.returns
returns c = lemmas.what_is_printed_is_a_catalogue
