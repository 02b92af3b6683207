use Rattle.std.proofs.Common.{sym}
use Rattle.quel_check.proofs.TreesFrom.{from_true, same_qual}
use Rattle.quel_check.proofs.whole_trees.qual_tree_behind.Goals as goal

pub returns-in-None : goal.returns-in-None
returns-in-None c = same_qual _ _ _ _ _ _ _ _ (sym c.in-None.ensures) (from_true _ _ _ _ _)
