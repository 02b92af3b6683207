use Rattle.std.proofs.Common.{IsTrue, ◌≡◌, take}
use Rattle.disk_model.specs.History.{CameSo}
use Rattle.batch_file.proofs.Calling.{Gathers}
use Rattle.batch_file.proofs.Collecting.{Collecting}
use Rattle.batch_file.proofs.committing.commit.Given as goal

abbrev pub invariant-loop-a : goal.invariant-loop-a
invariant-loop-a g l = record {
  known : IsTrue g.D.Disk.is_known → Collecting g.D.Disk.seen g.D.Disk.touched g.D.Disk.clock g.D.Disk.left_since (take l.a-index l.changes) l.fn.disk l.disk l.batch;
  none : l.a-index ≡ 0 → l.disk ≡ l.fn.disk;
  size : l.batch.count ≡ l.a-index;
  made : CameSo (g.D.Disk.history l.fn.disk) (g.D.Disk.history l.disk) (Gathers l.batch (take l.a-index l.changes));
  faults : g.D.Disk.faults l.disk ≡ g.D.Disk.faults l.fn.disk;
}
