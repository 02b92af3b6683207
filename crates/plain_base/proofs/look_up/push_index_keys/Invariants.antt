use Rattle.std.proofs.Common.{◌≡◌, ◌++◌, take, map}
use Rattle.std.specs.List.{filter}
use Rattle.calculus.specs.Keys.{same_key}
use Rattle.plain_base.proofs.look_up.push_index_keys.Given as goal

abbrev pub invariant-loop-index : goal.invariant-loop-index
invariant-loop-index l = l.keys.items ≡ l.fn.keys.items ++ map (λ x. x.info.key) (filter (λ x. same_key x.base l.rel) (take l.index-index l.indexes))
