use Rattle.std.proofs.Common.{◌≡◌, ◌++◌, flat_map, map, take}
use Rattle.quel_meaning.specs.WrittenParts.{aggregates_in_item}
use Rattle.quel_check.proofs.inner.push_in_items.Given as goal

abbrev pub invariant-loop-item : goal.invariant-loop-item
invariant-loop-item l = map (λ g. g.now) l.found.items ≡ map (λ g. g.now) l.initial.found.items ++ flat_map aggregates_in_item (take l.item-index l.items)
