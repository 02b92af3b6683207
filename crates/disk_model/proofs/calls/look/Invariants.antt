use Rattle.std.proofs.Common.{◌≡◌, ◌≤◌, take, length}
use Rattle.disk_model.specs.Disk.{Image}
use Rattle.disk_model.specs.Calls.{seen_from}
use Rattle.disk_model.proofs.calls.look.Given as goal

abbrev pub invariant-loop-n : goal.invariant-loop-n
invariant-loop-n l = record { size : l.n ≤ length l.calls; same : (m : Image) → seen_from m l.calls l.a ≡ seen_from m (take l.n l.calls) l.a }

abbrev pub decreases-loop-n : goal.decreases-loop-n
decreases-loop-n l = l.n
