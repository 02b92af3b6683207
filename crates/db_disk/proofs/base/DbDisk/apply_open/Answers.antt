use Rattle.db_disk.proofs.Reading.{some_schema}
use Rattle.db_disk.proofs.base.DbDisk.apply_open.Goals as goal

pub returns-in-Ok-clause-fixed : goal.returns-in-Ok-clause-fixed
returns-in-Ok-clause-fixed g c = some_schema c.apply_known-done.new.catalog c.apply_known-done.ensures.there
