use Rattle.std.proofs.Common.{◌≡◌, map, take}
use Rattle.quel_refusals.proofs.repeated.push_attrs.Given as goal

abbrev pub invariant-loop-name : goal.invariant-loop-name
invariant-loop-name l = map (λ n. n.now) l.names.items ≡ map (λ a. a.0) (take l.name-index l.attrs)
