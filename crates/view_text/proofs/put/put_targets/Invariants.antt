use Rattle.std.proofs.Common.{◌≡◌, ◌++◌, map, take}
use Rattle.view_text.specs.Replaced.{replaced_target}
use Rattle.view_text.proofs.put.put_targets.Given as goal

abbrev pub invariant-loop-target : goal.invariant-loop-target
invariant-loop-target g l = l.made.items ≡ l.fn.made.items ++ map (replaced_target (g.P.Substitution.made l.putting) (g.P.Substitution.put l.putting)) (take l.target-index l.targets)
