use Rattle.std.proofs.Common.{◌≡◌, ◌++◌, map, take}
use Rattle.view_text.specs.Replaced.{no_aggregate, replaced}
use Rattle.view_text.specs.Expansions.{substituted_from}
use Rattle.view_text.proofs.put.substituted_terms.Given as goal

abbrev pub invariant-loop-target : goal.invariant-loop-target
invariant-loop-target l = l.made.items ≡ l.fn.made.items ++ map (λ t. replaced no_aggregate (substituted_from 0 l.expansions) t.term) (take l.target-index l.targets)
