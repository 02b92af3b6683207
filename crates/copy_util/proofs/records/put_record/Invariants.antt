use Rattle.std.proofs.Common.{◌≡◌, IsTrue, length}
use Rattle.copy_util.specs.Reading.{are_readable, record_put}
use Rattle.copy_util.proofs.records.put_record.Given as goal

abbrev pub invariant-columns : goal.invariant-columns
invariant-columns l = record {
  readable : IsTrue (are_readable l.kinds l.left);
  so_far : record_put l.kinds l.left l.row.items l.rest ≡ record_put l.kinds l.columns l.fn.row.items l.bytes;
}

abbrev pub decreases-columns : goal.decreases-columns
decreases-columns l = length l.left
