use Rattle.stored_database.proofs.denoting.one_database.Goals as goal
use Rattle.stored_database.proofs.WhatStands as lemmas

pub returns : goal.returns
returns c = lemmas.one_database
