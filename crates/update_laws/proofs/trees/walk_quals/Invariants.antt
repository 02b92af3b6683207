use Rattle.std.proofs.Common.{IsTrue, take}
use Rattle.std.specs.List.{list_all}
use Rattle.update_laws.specs.Walked.{qual_is_walked}
use Rattle.update_laws.proofs.trees.walk_quals.Given as goal

abbrev pub invariant-loop-qual : goal.invariant-loop-qual
invariant-loop-qual l = IsTrue (list_all qual_is_walked (take l.qual-index l.quals))
