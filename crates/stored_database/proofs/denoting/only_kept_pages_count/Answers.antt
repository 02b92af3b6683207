use Rattle.stored_database.proofs.denoting.only_kept_pages_count.Goals as goal
use Rattle.stored_database.proofs.WhatStands as lemmas

pub returns : goal.returns
returns c = lemmas.only_kept_pages_count
