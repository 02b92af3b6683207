use Rattle.quel_tree.specs.Message.{most_tree_levels}
use Rattle.spelling_laws.proofs.Requests.{tree_fits}
use Rattle.spelling_laws.proofs.what_is_short_has_a_spelling.Goals as goal

pub returns : goal.returns
returns c tree h spelled short = tree_fits most_tree_levels tree h spelled short
