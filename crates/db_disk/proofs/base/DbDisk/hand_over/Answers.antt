use Rattle.std.proofs.Common.{ap}
use Rattle.db_disk.specs.Held.{database_by}
use Rattle.db_disk.proofs.Knowing.{none_known}
use Rattle.db_disk.proofs.Ready.{begun_ready}
use Rattle.db_disk.proofs.base.DbDisk.hand_over.Goals as goal

pub invariant_of-self : goal.invariant_of-self
invariant_of-self g c = record {
  ready = λ is. begun_ready c.args.self.now.store c.begin.new.self (c.args.self.now.ready is) c.begin.ensures.disk c.begin.ensures.due c.begin.ensures.empty;
  opened = λ x is. absurd (cc is);
  knows = λ known. none_known _;
}

pub returns-clause-disk : goal.returns-clause-disk
returns-clause-disk g c = c.begin.ensures.disk

pub returns-clause-kept : goal.returns-clause-kept
returns-clause-kept g c = ap (λ d. database_by g.D.Disk.is_known (g.D.Disk.seen d)) c.begin.ensures.disk

pub returns-clause-page : goal.returns-clause-page
returns-clause-page g c = c.begin.ensures.last
