use Rattle.quel_check.proofs.InnerTrees.{of_none}
use Rattle.quel_check.proofs.inner_trees.tree_of_one.Goals as goal

pub returns-in-None : goal.returns-in-None
returns-in-None c = λ mine. of_none _ _ _ _ c.args.vars.now _ _ _ mine c.in-None.ensures.over
