use Rattle.stored_database.proofs.catalogues.catalogues_are_read.Goals as goal
use Rattle.stored_database.proofs.CatalogueRead as lemmas

pub returns : goal.returns
returns c = lemmas.catalogues_are_read
