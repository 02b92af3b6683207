use Rattle.calculus.specs.Change.{laid}
use Rattle.db_disk.specs.Shown.{db_of, disk_in, schema_in}
use Rattle.db_disk.proofs.AsBase.{fixed, known_laid, own_schema}
use Rattle.db_disk.proofs.Changes.{on_ok_into}
use Rattle.db_disk.proofs.Leaving.{changed_by, durable_by}
use Rattle.db_disk.proofs.answering.DbDiskBase.apply.Goals as goal

pub returns-clause-schema : goal.returns-clause-schema
returns-clause-schema g c = λ s now knows then.
    let d = c.apply.new.self in
    known_laid c.args.change.now (db_of c.args.self.now) (schema_in c.args.self.now) (db_of d) (schema_in d) s now c.apply.result c.apply.ensures.known c.apply.ensures.schema
    (λ db s known is. own_schema g.D.Disk.is_known (g.D.Disk.seen (disk_in d)) d.catalog d.knows db s known is) knows then

pub returns-clause-fixed : goal.returns-clause-fixed
returns-clause-fixed g c = λ fixes. fixed c.apply.new.self c.apply.result c.apply.ensures.fixed

pub returns-clause-failed : goal.returns-clause-failed
returns-clause-failed g c = c.apply.ensures.failed

pub returns-clause-crash : goal.returns-clause-crash
returns-clause-crash g c = λ db is.
    let d = g.D.Disk in
    changed_by d.seen d.touched d.clock d.left_since d.is_known g.met.D.Disk.counts_now g.met.D.Disk.only_now (disk_in c.args.self.now) (disk_in c.apply.new.self) db (laid db c.args.change.now) is (c.apply.ensures.crash db is)

pub returns-clause-durable : goal.returns-clause-durable
returns-clause-durable g c = λ db is.
    let d = g.D.Disk in
    on_ok_into c.apply.result _ _ (λ each. durable_by d.seen d.touched d.clock d.left_since d.is_known (disk_in c.apply.new.self) (laid db c.args.change.now) each) (c.apply.ensures.durable db is)
