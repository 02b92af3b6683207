use Rattle.update_laws.proofs.Valued.{value_is_proper}
use Rattle.update_laws.proofs.values.the_values_of_terms_are_proper.Goals as goal

pub returns : goal.returns
returns c = value_is_proper
