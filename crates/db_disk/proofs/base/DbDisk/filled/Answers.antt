use Rattle.std.proofs.Common.{◌∙◌, sym, arith, ◌+◌, ap}
use Rattle.db_disk.proofs.Changes.{cause_after}
use Rattle.db_disk.proofs.Reading.{rows_of_schema, then_reads}
use Rattle.catalog.proofs.Rises.{rises_as, rises_less, rises_not, then_rises}
use Rattle.stored_database.specs.Printed.{Files}
use Rattle.db_disk.proofs.base.DbDisk.filled.Goals as goal

pub returns-clause-rows : goal.returns-clause-rows
returns-clause-rows g c = λ db is. c.fill_open.ensures.rows db (c.open.ensures.kept ∙ is)

pub returns-in_err-open-clause-again : goal.returns-in_err-open-clause-again
returns-in_err-open-clause-again g c = λ is. rows_of_schema c.args.self.now.catalog c.args.key.now _ is (λ s knows. ap g.D.Disk.reads (c.open.ensures.still s knows))

pub returns-clause-again : goal.returns-clause-again
returns-clause-again g c = λ is.
    rows_of_schema c.args.self.now.catalog c.args.key.now _ is (λ s knows. c.fill_open.ensures.again (c.open.ensures.stay c.args.key.now is) ∙ ap g.D.Disk.reads (c.open.ensures.still s knows))

pub returns-in_err-open-clause-reads : goal.returns-in_err-open-clause-reads
returns-in_err-open-clause-reads g c = λ s knows. rises_not _ _ _ (ap g.D.Disk.reads (c.open.ensures.still s knows))

pub returns-clause-reads : goal.returns-clause-reads
returns-clause-reads g c = λ s knows.
    rises_as _ _ _ _ (ap (λ (f : Files). f.used c.args.key.now) (sym c.fill_open.ensures.files)) (then_reads _ _ _ _ (ap g.D.Disk.reads (c.open.ensures.still s knows)) c.fill_open.ensures.reads)

pub returns-in_err-open-clause-opening_reads : goal.returns-in_err-open-clause-opening_reads
returns-in_err-open-clause-opening_reads g c = λ known all by. rises_less all _ _ _ (omega arith) (c.open.ensures.reads known all by)

pub returns-clause-opening_reads : goal.returns-clause-opening_reads
returns-clause-opening_reads g c = λ known all by.
    rises_as _ _ _ _ (ap (λ (f : Files). all + f.used c.args.key.now) (sym c.fill_open.ensures.files)) (then_rises all _ _ _ _ (c.open.ensures.reads known all by) c.fill_open.ensures.reads)

pub returns-in_err-open-clause-quiet : goal.returns-in_err-open-clause-quiet
returns-in_err-open-clause-quiet g c = λ known s knows. ap g.D.Disk.clock (c.open.ensures.still s knows)

pub returns-clause-quiet : goal.returns-clause-quiet
returns-clause-quiet g c = λ known s knows. (c.fill_open.ensures.only_reads known).clock_same ∙ ap g.D.Disk.clock (c.open.ensures.still s knows)

pub returns-in_err-open-clause-kept : goal.returns-in_err-open-clause-kept
returns-in_err-open-clause-kept g c = c.open.ensures.kept

pub returns-in_err-open-clause-keeps : goal.returns-in_err-open-clause-keeps
returns-in_err-open-clause-keeps g c = c.open.ensures.keeps

pub returns-in_err-open-clause-crash : goal.returns-in_err-open-clause-crash
returns-in_err-open-clause-crash g c = c.open.ensures.crash

pub returns-clause-stays : goal.returns-clause-stays
returns-clause-stays g c = λ is. let first = c.open.ensures.stays is in ((λ known. (c.fill_open.ensures.only_reads known).clock_same ∙ first.0 known), c.fill_open.ensures.stays ∙ first.1)

pub returns-in_err-open-clause-stays : goal.returns-in_err-open-clause-stays
returns-in_err-open-clause-stays g c = c.open.ensures.stays

pub returns-clause-files_stay : goal.returns-clause-files_stay
returns-clause-files_stay g c = λ s is. c.fill_open.ensures.files ∙ c.open.ensures.files_stay s is

pub returns-in_err-open-clause-files_stay : goal.returns-in_err-open-clause-files_stay
returns-in_err-open-clause-files_stay g c = c.open.ensures.files_stay

pub returns-clause-cause : goal.returns-clause-cause
returns-clause-cause g c = cause_after _ _ _ _ _ c.fill_open.result c.open.ensures.kept c.in_ok-open.ensures.cause.caused c.fill_open.ensures.cause
