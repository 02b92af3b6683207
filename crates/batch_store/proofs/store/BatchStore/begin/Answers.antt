use Rattle.batch_store.proofs.Runs.{given_up}
use Rattle.batch_store.proofs.Stands.{fresh_pages}
use Rattle.batch_store.proofs.store.BatchStore.begin.Goals as goal

pub returns-clause-pages : goal.returns-clause-pages
returns-clause-pages g c = λ known. fresh_pages g.D.Disk.is_known (g.D.Disk.seen c.args.self.now.disk) c.forget.new.batch known (c.forget.ensures.none (g.D.Disk.seen c.args.self.now.disk))

pub returns-clause-crash : goal.returns-clause-crash
returns-clause-crash g c = λ s came known.
    given_up g.D.Disk s.due c.args.self.now.due s.disk c.args.self.now.disk came known (λ m left. g.met.D.Disk.only_now s.disk m known left) (s.shut known)
