use Rattle.std.proofs.Common.{sym}
use Rattle.utility_trees.proofs.helped.helped_on.Goals as goal

pub returns-clause-known : goal.returns-clause-known
returns-clause-known g c = λ s h. c.in_ok-tree.ensures s (sym (c.in_ok-dba.ensures.known s.db h))
