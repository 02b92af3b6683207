use Rattle.std.proofs.Common.{sym}
use Rattle.quel_check.proofs.TreeForms.{of_true, same_qual}
use Rattle.quel_check.proofs.trees.qual_tree_of.Goals as goal

pub returns-in-None : goal.returns-in-None
returns-in-None c = same_qual _ _ _ _ _ (sym c.in-None.ensures) (of_true _ _)
