use Rattle.calculus_laws.proofs.WhatIsRead.{key_reads_kept, query_reads_kept}
use Rattle.calculus_laws.proofs.reading.what_is_read_is_kept.Goals as goal

pub returns : goal.returns
returns c = record { key = key_reads_kept; query = query_reads_kept }
