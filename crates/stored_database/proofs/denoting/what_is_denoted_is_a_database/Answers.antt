use Rattle.stored_database.proofs.denoting.what_is_denoted_is_a_database.Goals as goal
use Rattle.stored_database.proofs.WhatStands as lemmas

pub returns : goal.returns
returns c = lemmas.what_is_denoted_is_a_database
