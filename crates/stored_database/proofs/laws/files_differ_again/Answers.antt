use Rattle.stored_database.proofs.laws.files_differ_again.Goals as goal
use Rattle.stored_database.proofs.FilesDiffer as lemmas

pub returns : goal.returns
returns c = lemmas.differ_again
