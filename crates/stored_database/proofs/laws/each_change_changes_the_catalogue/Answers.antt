use Rattle.stored_database.proofs.laws.each_change_changes_the_catalogue.Goals as goal
use Rattle.stored_database.proofs.Every as lemmas

pub returns : goal.returns
returns c = lemmas.every_change
