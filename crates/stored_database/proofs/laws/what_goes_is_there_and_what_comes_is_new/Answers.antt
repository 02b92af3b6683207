use Rattle.stored_database.proofs.laws.what_goes_is_there_and_what_comes_is_new.Goals as goal
use Rattle.stored_database.proofs.Every as lemmas

pub returns : goal.returns
returns c = lemmas.every_row
