use Rattle.db_disk.specs.Laws.{lawful_held}
use Rattle.db_disk.specs.Shown.{db_of, disk_in}
use Rattle.db_disk.proofs.AsBase.{fixed, ready, stays, known_after}
use Rattle.db_disk.proofs.Leaving.{asked_on}
use Rattle.db_disk.proofs.ReadBy.{catalogues_cached, reads_rows, scan_begins, scan_goes_on, still_cached}
use Rattle.db_disk.proofs.Scanned.{known_fits}
use Rattle.db_disk.proofs.answering.DbDiskBase.scan.Goals as goal

pub returns-clause-fits : goal.returns-clause-fits
returns-clause-fits g c =
    let d = c.args.self.now in
    known_after d c.scan.new.self c.scan.ensures.kept c.scan.ensures.keeps _
    (λ db is. known_fits (db_of d) db c.args.key.now c.args.probe.now c.args.at.now c.scan.new.at c.scan.result (lawful_held g.D.Disk.is_known (g.D.Disk.seen (disk_in d)) db is) is (c.scan.ensures.known db is)) c.scan.ensures.fits

pub returns-clause-stays : goal.returns-clause-stays
returns-clause-stays g c = stays c.args.self.now c.scan.new.self c.scan.ensures.kept c.scan.ensures.keeps

pub returns-clause-fixed : goal.returns-clause-fixed
returns-clause-fixed g c = λ fixes. fixed c.scan.new.self c.scan.result c.scan.ensures.fixed

pub returns-clause-ready : goal.returns-clause-ready
returns-clause-ready g c = ready c.scan.new.self c.scan.result c.scan.ensures.fixed

pub returns-clause-asked : goal.returns-clause-asked
returns-clause-asked g c = λ b before. asked_on g.met.D.Disk.counts_now g.met.D.Disk.only_now b c.args.self.now c.scan.new.self c.scan.ensures.kept c.scan.ensures.crash c.scan.ensures.stays before

pub returns-clause-cached : goal.returns-clause-cached
returns-clause-cached g c = catalogues_cached c.scan.new.self c.scan.result c.scan.ensures.fixed

pub returns-clause-still_cached : goal.returns-clause-still_cached
returns-clause-still_cached g c = still_cached c.args.self.now c.scan.new.self c.scan.ensures.keeps c.scan.ensures.files_stay

pub returns-clause-reads : goal.returns-clause-reads
returns-clause-reads g c = reads_rows c.args.self.now c.scan.new.self c.args.key.now c.scan.ensures.reads c.scan.ensures.opening_reads

pub returns-clause-begins : goal.returns-clause-begins
returns-clause-begins g c = scan_begins c.args.self.now c.scan.new.self c.args.key.now c.scan.ensures.reads c.scan.ensures.opening_reads c.args.at.now c.scan.new.at c.scan.result c.scan.ensures.in_memory

pub returns-clause-goes_on : goal.returns-clause-goes_on
returns-clause-goes_on g c = scan_goes_on c.args.self.now c.scan.new.self c.args.key.now c.scan.ensures.reads c.scan.ensures.opening_reads c.args.at.now c.scan.new.at c.scan.result c.scan.ensures.in_memory c.scan.ensures.files_stay c.scan.ensures.again
