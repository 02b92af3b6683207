use Rattle.tree_laws.proofs.Updating.{updated_put}
use Rattle.tree_laws.proofs.updates.what_is_put_in_changes_the_same.Goals as goal

pub returns : goal.returns
returns c = updated_put
