use Rattle.tree_words.proofs.Passing.{Passed}
use Rattle.tree_words.proofs.short.pass_over.Given as goal

abbrev pub invariant-loop-passed : goal.invariant-loop-passed
invariant-loop-passed g l = Passed (g.S.Shape.stands l.size) l.size l.passed l.fn.reader l.reader
