use Rattle.stored_database.proofs.denoting.same_redone.Goals as goal
use Rattle.stored_database.proofs.WhatStands as lemmas

pub returns : goal.returns
returns c = lemmas.same_redone
