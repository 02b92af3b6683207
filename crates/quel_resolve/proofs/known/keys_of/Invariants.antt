use Rattle.std.proofs.Common.{◌≡◌, map, take}
use Rattle.quel_resolve.proofs.known.keys_of.Given as goal

abbrev pub invariant-loop-info : goal.invariant-loop-info
invariant-loop-info l = l.keys.items ≡ map (λ info. info.key) (take l.info-index l.infos)
