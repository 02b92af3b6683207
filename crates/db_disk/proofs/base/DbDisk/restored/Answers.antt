use Rattle.db_disk.proofs.Ready.{holds_started, ready_redone}
use Rattle.db_disk.proofs.Leaving.{were_both}
use Rattle.db_disk.proofs.base.DbDisk.restored.Goals as goal

pub returns-then-self-clause-pages : goal.returns-then-self-clause-pages
returns-then-self-clause-pages g c = λ known. ready_redone c.args.self.now.store (c.args.self.now.ready c.if-self.true) known

pub returns-then-self-clause-crash : goal.returns-then-self-clause-crash
returns-then-self-clause-crash g c = λ known.
    holds_started g.D.Disk.seen g.D.Disk.touched g.D.Disk.clock g.D.Disk.left_since _ (λ m left. g.met.D.Disk.only_now _ m known left)

pub returns-then-self-clause-stays : goal.returns-then-self-clause-stays
returns-then-self-clause-stays g c = λ is. is

pub returns-clause-stays : goal.returns-clause-stays
returns-clause-stays g c = λ is. were_both _ _ is c.if-self.false
