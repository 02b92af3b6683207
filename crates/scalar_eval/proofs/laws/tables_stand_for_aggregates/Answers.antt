use Rattle.scalar_eval.proofs.Stands.{same_value, same_truth}
use Rattle.scalar_eval.proofs.laws.tables_stand_for_aggregates.Goals as goal

pub returns : goal.returns
returns c = record { value = same_value; truth = same_truth }
