use Rattle.std.proofs.Common.{◌≡◌, ◌++◌, IsTrue, length}
use Rattle.std.specs.Prelude.{option_map}
use Rattle.quel_meaning.specs.Copying.{record_bytes}
use Rattle.copy_util.specs.Reading.{have_forms}
use Rattle.copy_util.proofs.rows_written.push_record.Given as goal

abbrev pub invariant-columns : goal.invariant-columns
invariant-columns l = record {
  forms : IsTrue (have_forms l.left);
  so_far : option_map (λ piece. l.fn.out.items ++ piece) (record_bytes l.columns l.row) ≡ option_map (λ piece. l.out.items ++ piece) (record_bytes l.left l.row);
}

abbrev pub decreases-columns : goal.decreases-columns
decreases-columns l = length l.left
