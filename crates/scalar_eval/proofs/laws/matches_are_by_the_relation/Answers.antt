use Rattle.scalar_eval.proofs.Relation.{test_is_relation}
use Rattle.scalar_eval.proofs.laws.matches_are_by_the_relation.Goals as goal

pub returns : goal.returns
returns c = test_is_relation
