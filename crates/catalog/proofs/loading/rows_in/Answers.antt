use Rattle.catalog.proofs.loading.rows_in.Goals as goal

pub returns-clause-came : goal.returns-clause-came
returns-clause-came g c = c.chain_rows.ensures.came

pub returns-clause-only_read : goal.returns-clause-only_read
returns-clause-only_read g c = c.chain_rows.ensures.only_read

pub returns-clause-same : goal.returns-clause-same
returns-clause-same g c = c.chain_rows.ensures.same

pub returns-clause-reads : goal.returns-clause-reads
returns-clause-reads g c = c.chain_rows.ensures.reads
