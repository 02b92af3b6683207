use Rattle.std.proofs.lemmas.Result.{IfOk-weaker}
use Rattle.quel_check.proofs.Among.{where_is}
use Rattle.quel_check.proofs.trees.where_tree.Goals as goal

pub returns : goal.returns
returns c = IfOk-weaker c.qual_tree_of.result _ _ (λ found h. where_is _ _ _ found h) c.qual_tree_of.ensures
