use Rattle.std.proofs.Common.{◌≡◌, IsTrue, length}
use Rattle.std.specs.List.{All}
use Rattle.batch_file.specs.Layout.{is_place}
use Rattle.disk_tests.proofs.batches.changes.Given as goal

abbrev pub invariant-loop-i : goal.invariant-loop-i
invariant-loop-i g l = record { places : All (λ c. IsTrue (is_place c.0)) l.changes.items; size : length l.changes.items ≡ l.i }
