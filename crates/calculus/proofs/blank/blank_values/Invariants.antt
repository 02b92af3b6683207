use Rattle.std.proofs.Common.{◌≡◌, map, take}
use Rattle.calculus.specs.Pairs.{blank}
use Rattle.calculus.proofs.blank.blank_values.Given as goal

abbrev pub invariant-loop-kind : goal.invariant-loop-kind
invariant-loop-kind l = l.values.items ≡ map blank (take l.kind-index l.kinds)
