use Rattle.db_disk.proofs.AsBase.{fixed, ready, stays, known_after, known_before}
use Rattle.db_disk.proofs.Leaving.{asked_on}
use Rattle.db_disk.proofs.ReadBy.{catalogues_cached, reads_catalogues, still_cached}
use Rattle.db_disk.proofs.answering.DbDiskBase.named_by_view.Goals as goal

pub returns-clause-known : goal.returns-clause-known
returns-clause-known g c = known_before c.args.self.now c.named_by_view.new.self c.named_by_view.ensures.kept c.named_by_view.ensures.keeps _ c.named_by_view.ensures.known c.named_by_view.ensures.by_schema

pub returns-clause-by_schema : goal.returns-clause-by_schema
returns-clause-by_schema g c = known_after c.args.self.now c.named_by_view.new.self c.named_by_view.ensures.kept c.named_by_view.ensures.keeps _ c.named_by_view.ensures.known c.named_by_view.ensures.by_schema

pub returns-clause-stays : goal.returns-clause-stays
returns-clause-stays g c = stays c.args.self.now c.named_by_view.new.self c.named_by_view.ensures.kept c.named_by_view.ensures.keeps

pub returns-clause-fixed : goal.returns-clause-fixed
returns-clause-fixed g c = λ fixes. fixed c.named_by_view.new.self c.named_by_view.result c.named_by_view.ensures.fixed

pub returns-clause-ready : goal.returns-clause-ready
returns-clause-ready g c = ready c.named_by_view.new.self c.named_by_view.result c.named_by_view.ensures.fixed

pub returns-clause-asked : goal.returns-clause-asked
returns-clause-asked g c = λ b before. asked_on g.met.D.Disk.counts_now g.met.D.Disk.only_now b c.args.self.now c.named_by_view.new.self c.named_by_view.ensures.kept c.named_by_view.ensures.crash c.named_by_view.ensures.stays before

pub returns-clause-cached : goal.returns-clause-cached
returns-clause-cached g c = catalogues_cached c.named_by_view.new.self c.named_by_view.result c.named_by_view.ensures.fixed

pub returns-clause-still_cached : goal.returns-clause-still_cached
returns-clause-still_cached g c = still_cached c.args.self.now c.named_by_view.new.self c.named_by_view.ensures.keeps c.named_by_view.ensures.files_stay

pub returns-clause-reads : goal.returns-clause-reads
returns-clause-reads g c = reads_catalogues c.args.self.now c.named_by_view.new.self c.named_by_view.ensures.still c.named_by_view.ensures.reads
