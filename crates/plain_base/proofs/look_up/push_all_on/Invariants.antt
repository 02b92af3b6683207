use Rattle.std.proofs.Common.{◌≡◌, ◌++◌, take, map}
use Rattle.std.specs.List.{filter}
use Rattle.calculus.specs.Keys.{same_key}
use Rattle.plain_base.proofs.look_up.push_all_on.Given as goal

abbrev pub invariant-loop-item : goal.invariant-loop-item
invariant-loop-item g l = l.copies.items ≡ l.fn.copies.items ++ map (λ p. p.1) (filter (λ p. same_key p.0 l.key) (take l.item-index l.items))
