use Rattle.stored_database.proofs.denoting.pages_stand_exactly.Goals as goal
use Rattle.stored_database.proofs.Exactly as lemmas

pub returns : goal.returns
returns c = lemmas.pages_stand_exactly
