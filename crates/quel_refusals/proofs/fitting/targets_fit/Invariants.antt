use Rattle.std.proofs.Common.{◌≡◌, true, map, take, vec_items}
use Rattle.std.specs.List.{list_all}
use Rattle.calculus.specs.IsDatabase.{has_kind}
use Rattle.calculus.specs.Kinds.{kind_of}
use Rattle.quel_refusals.proofs.fitting.targets_fit.Given as goal

abbrev pub invariant-loop-target : goal.invariant-loop-target
invariant-loop-target l = list_all (λ t. has_kind (kind_of t.term (map vec_items l.kinds)) t.kind) (take l.target-index l.targets) ≡ true
