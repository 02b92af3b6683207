use Rattle.std.proofs.Common.{ap}
use Rattle.db_disk.specs.Left.{clock_by}
use Rattle.db_disk.specs.Shown.{db_of, schema_in}
use Rattle.db_disk.proofs.AsBase.{forgotten}
use Rattle.db_disk.proofs.Leaving.{asked_as}
use Rattle.db_disk.proofs.answering.DbDiskBase.hand_over.Goals as goal

pub returns-clause-faults : goal.returns-clause-faults
returns-clause-faults g c = ap g.D.Disk.faults c.hand_over.ensures.disk

pub returns-clause-forgotten : goal.returns-clause-forgotten
returns-clause-forgotten g c = λ s is. forgotten (db_of c.hand_over.new.self) (schema_in c.hand_over.new.self) s c.hand_over.ensures.schema is

pub returns-clause-still : goal.returns-clause-still
returns-clause-still g c = (ap (clock_by g.D.Disk.is_known g.D.Disk.clock) c.hand_over.ensures.disk, ap g.D.Disk.reads c.hand_over.ensures.disk)

pub returns-clause-asked : goal.returns-clause-asked
returns-clause-asked g c = λ b before. asked_as b c.args.self.now c.hand_over.new.self c.hand_over.ensures.kept c.hand_over.ensures.disk c.hand_over.ensures.stays before
