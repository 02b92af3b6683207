use Rattle.std.proofs.Common.{refl}
use Rattle.page_chain.proofs.Carried.{cause_earlier}
use Rattle.catalog.specs.Knows.{NoDatabase, NoDatabaseAt}
use Rattle.catalog.specs.declared.catalog.Catalog.{Catalog}
use Rattle.db_disk.proofs.Damaged.{at_fault}
use Rattle.db_disk.proofs.Headless.{same_err}
use Rattle.db_disk.proofs.load.load_for.Goals as goal

pub returns-in-Ok-clause-came : goal.returns-in-Ok-clause-came
returns-in-Ok-clause-came g c = c.load.ensures.came

pub returns-in-Err-clause-came : goal.returns-in-Err-clause-came
returns-in-Err-clause-came g c = c.load.ensures.came

pub returns-in-Ok-clause-only_read : goal.returns-in-Ok-clause-only_read
returns-in-Ok-clause-only_read g c = c.load.ensures.only_read

pub returns-in-Err-clause-only_read : goal.returns-in-Err-clause-only_read
returns-in-Err-clause-only_read g c = c.load.ensures.only_read

pub returns-in-Ok-clause-same : goal.returns-in-Ok-clause-same
returns-in-Ok-clause-same g c = c.load.ensures.same

pub returns-in-Err-clause-same : goal.returns-in-Err-clause-same
returns-in-Err-clause-same g c = c.load.ensures.same

pub returns-in-Ok-clause-reads : goal.returns-in-Ok-clause-reads
returns-in-Ok-clause-reads g c = c.load.ensures.reads

pub returns-in-Err-clause-reads : goal.returns-in-Err-clause-reads
returns-in-Err-clause-reads g c = c.load.ensures.reads

pub returns-in-Ok-clause-cause : goal.returns-in-Ok-clause-cause
returns-in-Ok-clause-cause g c = record { later = c.in-Ok.ensures.cause.later; caused = c.in-Ok.ensures.cause.caused }

pub returns-in-Err-clause-cause : goal.returns-in-Err-clause-cause
returns-in-Err-clause-cause g c =
    cause_earlier {T = Catalog} {U = Catalog} _ _ (NoDatabaseAt c.args.dba) (NoDatabase c.args.dba) _ _ _ c.in-Err.fault refl (λ a at m known. (at m known).0) c.in-Err.ensures.cause

pub returns-in-Err-clause-at_catalog : goal.returns-in-Err-clause-at_catalog
returns-in-Err-clause-at_catalog g c = λ m file page known e.
    (at_fault _ (NoDatabaseAt c.args.dba) _ _ c.in-Err.fault c.in-Err.ensures.cause.caused m file page known (same_err {T = Catalog} _ _ e)).1
