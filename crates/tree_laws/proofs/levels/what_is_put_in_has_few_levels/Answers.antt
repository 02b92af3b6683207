use Rattle.tree_laws.proofs.Trees.{expanded_low, ruled_tree_low}
use Rattle.tree_laws.proofs.levels.what_is_put_in_has_few_levels.Goals as goal

pub returns : goal.returns
returns c = record { plain = expanded_low; ruled = ruled_tree_low }
