use Rattle.std.proofs.Common.{IsTrue, ◌≡◌, None}
use Rattle.disk_model.specs.Disk.{OnlyReads}
use Rattle.batch_file.specs.Layout.{has_image}
use Rattle.batch_file.specs.Redone.{first_failing}
use Rattle.batch_file.proofs.check.check_images.Given as goal

abbrev pub invariant-loop-k : goal.invariant-loop-k
invariant-loop-k g l = record {
  same : IsTrue g.D.Disk.is_known → OnlyReads g.D.Disk.seen g.D.Disk.touched g.D.Disk.clock g.D.Disk.left_since l.fn.disk l.disk;
  there : IsTrue g.D.Disk.is_known → first_failing (has_image (g.D.Disk.seen l.fn.disk)) l.k ≡ None;
  unwritten : g.D.Disk.history l.disk ≡ g.D.Disk.history l.fn.disk;
  faults : g.D.Disk.faults l.disk ≡ g.D.Disk.faults l.fn.disk;
}
