use Rattle.std.proofs.Common.{◌≡◌, ◌++◌, flat_map, map, take}
use Rattle.quel_meaning.specs.WrittenParts.{outer_vars_in_item}
use Rattle.quel_check.proofs.names.push_vars_of_items.Given as goal

abbrev pub invariant-loop-item : goal.invariant-loop-item
invariant-loop-item l = map (λ n. n.now) l.names.items ≡ map (λ n. n.now) l.initial.names.items ++ flat_map outer_vars_in_item (take l.item-index l.items)
