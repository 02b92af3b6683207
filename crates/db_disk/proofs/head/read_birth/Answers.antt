use Rattle.db_disk.proofs.head.read_birth.Goals as goal

pub returns-clause-came : goal.returns-clause-came
returns-clause-came g c = c.get.ensures.came

pub returns-clause-only_read : goal.returns-clause-only_read
returns-clause-only_read g c = c.get.ensures.only_read

pub returns-clause-same : goal.returns-clause-same
returns-clause-same g c = c.get.ensures.same

pub returns-clause-reads : goal.returns-clause-reads
returns-clause-reads g c = c.get.ensures.reads
