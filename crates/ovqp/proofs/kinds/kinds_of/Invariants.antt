use Rattle.std.proofs.Common.{◌≡◌, map, take}
use Rattle.ovqp.proofs.kinds.kinds_of.Given as goal

abbrev pub invariant-loop-attr : goal.invariant-loop-attr
invariant-loop-attr l = l.kinds.items ≡ map (λ a. a.kind) (take l.attr-index l.attrs)
