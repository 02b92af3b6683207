use Rattle.db_disk.proofs.AsBase.{fixed, ready, stays}
use Rattle.db_disk.proofs.Leaving.{asked_on}
use Rattle.db_disk.proofs.ReadBy.{catalogues_cached, reads_rows, still_cached}
use Rattle.db_disk.proofs.answering.DbDiskBase.size.Goals as goal

pub returns-clause-stays : goal.returns-clause-stays
returns-clause-stays g c = stays c.args.self.now c.size.new.self c.size.ensures.kept c.size.ensures.keeps

pub returns-clause-fixed : goal.returns-clause-fixed
returns-clause-fixed g c = λ fixes. fixed c.size.new.self c.size.result c.size.ensures.fixed

pub returns-clause-ready : goal.returns-clause-ready
returns-clause-ready g c = ready c.size.new.self c.size.result c.size.ensures.fixed

pub returns-clause-asked : goal.returns-clause-asked
returns-clause-asked g c = λ b before. asked_on g.met.D.Disk.counts_now g.met.D.Disk.only_now b c.args.self.now c.size.new.self c.size.ensures.kept c.size.ensures.crash c.size.ensures.stays before

pub returns-clause-cached : goal.returns-clause-cached
returns-clause-cached g c = catalogues_cached c.size.new.self c.size.result c.size.ensures.fixed

pub returns-clause-still_cached : goal.returns-clause-still_cached
returns-clause-still_cached g c = still_cached c.args.self.now c.size.new.self c.size.ensures.keeps c.size.ensures.files_stay

pub returns-clause-reads : goal.returns-clause-reads
returns-clause-reads g c = reads_rows c.args.self.now c.size.new.self c.args.key.now c.size.ensures.reads c.size.ensures.opening_reads
