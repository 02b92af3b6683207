use Rattle.schema_laws.proofs.CheckedTrees.{resolved_alike, checked_tree_alike}
use Rattle.schema_laws.proofs.checking.what_is_asked_for_is_in_the_schema.Goals as goal

pub returns-clause-resolved : goal.returns-clause-resolved
returns-clause-resolved c = resolved_alike

pub returns-clause-checked_tree : goal.returns-clause-checked_tree
returns-clause-checked_tree c = checked_tree_alike
