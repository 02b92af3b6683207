use Rattle.std.proofs.Common.{◌≡◌, map, take}
use Rattle.quel_meaning.specs.WrittenParts.{once}
use Rattle.quel_check.proofs.names.push_once.Given as goal

abbrev pub invariant-loop-name : goal.invariant-loop-name
invariant-loop-name l = l.found.items ≡ once (map (λ n. n.now) (take l.name-index l.names))
