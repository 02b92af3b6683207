use Rattle.std.proofs.Common.{◌≡◌, map, take}
use Rattle.quel_meaning.specs.Planned.{target_attr}
use Rattle.tree_check.proofs.target_attributes.push_target_attrs.Given as goal

abbrev pub invariant-loop-target : goal.invariant-loop-target
invariant-loop-target l = l.attrs.items ≡ map target_attr (take l.target-index l.targets)
