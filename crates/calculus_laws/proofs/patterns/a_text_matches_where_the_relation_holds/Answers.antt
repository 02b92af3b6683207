use Rattle.calculus_laws.proofs.Matching.{test_is_relation}
use Rattle.calculus_laws.proofs.patterns.a_text_matches_where_the_relation_holds.Goals as goal

pub returns : goal.returns
returns c = test_is_relation
