use Rattle.std.proofs.Common.{IsTrue, take}
use Rattle.std.specs.List.{list_all}
use Rattle.calculus.specs.Spelled.{query_is_spelled}
use Rattle.update_laws.proofs.trees.walk_asked.Given as goal

abbrev pub invariant-loop-one : goal.invariant-loop-one
invariant-loop-one l = IsTrue (list_all (λ a. query_is_spelled a.query) (take l.one-index l.asked))
