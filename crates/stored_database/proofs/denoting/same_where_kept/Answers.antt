use Rattle.stored_database.proofs.denoting.same_where_kept.Goals as goal
use Rattle.stored_database.proofs.WhatStands as lemmas

pub returns : goal.returns
returns c = lemmas.same_where_kept
