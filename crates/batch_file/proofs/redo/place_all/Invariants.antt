use Rattle.std.proofs.Common.{IsTrue, ◌≡◌}
use Rattle.disk_model.specs.History.{CameSo}
use Rattle.batch_file.specs.Order.{Places}
use Rattle.batch_file.specs.Faults.{IsBuffered}
use Rattle.batch_file.proofs.Placing.{Placing}
use Rattle.batch_file.proofs.redo.place_all.Given as goal

abbrev pub invariant-loop-k : goal.invariant-loop-k
invariant-loop-k g l = record {
  known : IsTrue g.D.Disk.is_known → Placing g.D.Disk.seen g.D.Disk.touched g.D.Disk.clock g.D.Disk.left_since l.count l.fn.disk l.disk l.k;
  buffered : IsTrue g.D.Disk.is_known → IsBuffered (g.D.Disk.seen l.fn.disk) l.k l.buffer;
  made : CameSo (g.D.Disk.history l.fn.disk) (g.D.Disk.history l.disk) (Places l.k);
  faults : g.D.Disk.faults l.disk ≡ g.D.Disk.faults l.fn.disk;
}
