use Rattle.batch_store.proofs.Stands.{fresh_pages}
use Rattle.batch_store.proofs.store.BatchStore.over.Goals as goal

pub returns-clause-pages : goal.returns-clause-pages
returns-clause-pages g c = λ known. fresh_pages g.D.Disk.is_known (g.D.Disk.seen c.args.disk) c.begin.result known (c.begin.ensures.none (g.D.Disk.seen c.args.disk))
