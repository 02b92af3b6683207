use Rattle.std.proofs.Common.{length}
use Rattle.stage_proc.proofs.new_row.+put_values.Given as goal

abbrev pub decreases-put_values : goal.decreases-put_values
decreases-put_values l = length l.places.now
