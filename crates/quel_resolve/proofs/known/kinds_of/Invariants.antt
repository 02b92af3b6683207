use Rattle.std.proofs.Common.{◌≡◌, map, take, vec_items}
use Rattle.quel_resolve.specs.Targets.{kinds_in}
use Rattle.quel_resolve.proofs.known.kinds_of.Given as goal

abbrev pub invariant-loop-info : goal.invariant-loop-info
invariant-loop-info l = map vec_items l.kinds.items ≡ kinds_in (take l.info-index l.infos)
