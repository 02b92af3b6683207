use Rattle.std.proofs.Common.{◌∙◌}
use Rattle.batch_store.specs.Store.{disk_of}
use Rattle.db_disk.proofs.Holding.{known_some}
use Rattle.db_disk.proofs.Knowing.{schema_held}
use Rattle.db_disk.proofs.Reading.{files_held}
use Rattle.db_disk.proofs.Headless.{at_head_by, of_base}
use Rattle.db_disk.proofs.base.DbDisk.open.Goals as goal

pub returns-in-Ok-clause-schema : goal.returns-in-Ok-clause-schema
returns-in-Ok-clause-schema g c = λ db is.
    let now = c.start.new.self in
    let known = known_some g.D.Disk.is_known (g.D.Disk.seen (disk_of now.store)) db (c.start.ensures.kept ∙ is) in
    schema_held (g.D.Disk.seen (disk_of now.store)) now.catalog db (now.knows known.0) known.1 c.in-Ok.ensures.there

pub returns-in-Ok-clause-files : goal.returns-in-Ok-clause-files
returns-in-Ok-clause-files g c = λ db is.
    let now = c.start.new.self in
    let known = known_some g.D.Disk.is_known (g.D.Disk.seen (disk_of now.store)) db (c.start.ensures.kept ∙ is) in
    files_held (g.D.Disk.seen (disk_of now.store)) now.catalog db (now.knows known.0) known.1 c.in-Ok.ensures.there

pub returns-in-Ok-clause-kept : goal.returns-in-Ok-clause-kept
returns-in-Ok-clause-kept g c = c.start.ensures.kept

pub returns-in-Ok-clause-keeps : goal.returns-in-Ok-clause-keeps
returns-in-Ok-clause-keeps g c = c.start.ensures.keeps

pub returns-in-Ok-clause-crash : goal.returns-in-Ok-clause-crash
returns-in-Ok-clause-crash g c = c.start.ensures.crash

pub returns-in-Ok-clause-still : goal.returns-in-Ok-clause-still
returns-in-Ok-clause-still g c = c.start.ensures.still

pub returns-in-Ok-clause-stay : goal.returns-in-Ok-clause-stay
returns-in-Ok-clause-stay g c = c.start.ensures.stay

pub returns-in-Ok-clause-reads : goal.returns-in-Ok-clause-reads
returns-in-Ok-clause-reads g c = c.start.ensures.reads

pub returns-in-Err-clause-kept : goal.returns-in-Err-clause-kept
returns-in-Err-clause-kept g c = c.start.ensures.kept

pub returns-in-Err-clause-keeps : goal.returns-in-Err-clause-keeps
returns-in-Err-clause-keeps g c = c.start.ensures.keeps

pub returns-in-Err-clause-crash : goal.returns-in-Err-clause-crash
returns-in-Err-clause-crash g c = c.start.ensures.crash

pub returns-in-Err-clause-still : goal.returns-in-Err-clause-still
returns-in-Err-clause-still g c = c.start.ensures.still

pub returns-in-Err-clause-stay : goal.returns-in-Err-clause-stay
returns-in-Err-clause-stay g c = c.start.ensures.stay

pub returns-in-Err-clause-reads : goal.returns-in-Err-clause-reads
returns-in-Err-clause-reads g c = c.start.ensures.reads

pub returns-in-Ok-clause-stays : goal.returns-in-Ok-clause-stays
returns-in-Ok-clause-stays g c = c.start.ensures.stays

pub returns-in-Err-clause-stays : goal.returns-in-Err-clause-stays
returns-in-Err-clause-stays g c = c.start.ensures.stays

pub returns-in-Err-clause-at_batch : goal.returns-in-Err-clause-at_batch
returns-in-Err-clause-at_batch g c = λ known none file page is. c.start.ensures.at_batch known none file page (of_base c.in-Err.fault c.start.result c.base_fault.result file page c.in-Err.is c.base_fault.ensures is)

pub returns-in-Err-clause-at_head : goal.returns-in-Err-clause-at_head
returns-in-Err-clause-at_head g c = λ known m is none off file page e.
    at_head_by m c.in-Err.fault c.start.result c.base_fault.result file page c.in-Err.is c.base_fault.ensures (c.start.ensures.headless known m is none off) (λ p same. c.start.ensures.at_head known m p is same) e

pub returns-in-Ok-clause-at_batch : goal.returns-in-Ok-clause-at_batch
returns-in-Ok-clause-at_batch g c = λ known none file page e. absurd (cc e)

pub returns-in-Ok-clause-at_head : goal.returns-in-Ok-clause-at_head
returns-in-Ok-clause-at_head g c = λ known m is none off file page e. absurd (cc e)

pub returns-in-Ok-clause-files_stay : goal.returns-in-Ok-clause-files_stay
returns-in-Ok-clause-files_stay g c = c.start.ensures.files_stay

pub returns-in-Err-clause-files_stay : goal.returns-in-Err-clause-files_stay
returns-in-Err-clause-files_stay g c = c.start.ensures.files_stay

pub returns-in-Err-clause-at_catalog : goal.returns-in-Err-clause-at_catalog
returns-in-Err-clause-at_catalog g c = λ known m is head file page e.
    c.start.ensures.at_catalog known m is head file page (of_base c.in-Err.fault c.start.result c.base_fault.result file page c.in-Err.is c.base_fault.ensures e)
