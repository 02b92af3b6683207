use Rattle.stored_database.proofs.denoting.shut_disks_hold.Goals as goal
use Rattle.stored_database.proofs.WhatStands as lemmas

pub returns : goal.returns
returns c = lemmas.shut_disks_hold
