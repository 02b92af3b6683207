use Rattle.std.proofs.Common.{◌≡◌, map, take}
use Rattle.calculus.specs.Replacement.{made_attr}
use Rattle.tree_check.proofs.target_attributes.push_made_attrs.Given as goal

abbrev pub invariant-loop-target : goal.invariant-loop-target
invariant-loop-target l = l.attrs.items ≡ map made_attr (take l.target-index l.targets)
