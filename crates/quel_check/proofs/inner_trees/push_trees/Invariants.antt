use Rattle.std.proofs.Common.{take}
use Rattle.quel_check.specs.Known.{AreTermTrees}
use Rattle.quel_check.proofs.inner_trees.push_trees.Given as goal

abbrev pub invariant-loop-term : goal.invariant-loop-term
invariant-loop-term l = AreTermTrees l.vars l.infos (take l.term-index l.terms) l.trees.items
