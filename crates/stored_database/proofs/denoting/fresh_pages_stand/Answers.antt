use Rattle.stored_database.proofs.denoting.fresh_pages_stand.Goals as goal
use Rattle.stored_database.proofs.Fresh as lemmas

pub returns : goal.returns
returns c = lemmas.fresh_pages_stand
