use Rattle.std.proofs.Common.{◌≡◌, ◌≤◌, flat_map, length, take}
use Rattle.quel_meaning.specs.WrittenParts.{aggregates_in_item}
use Rattle.quel_check.proofs.slots.slot_behind_items.Given as goal

abbrev pub invariant-loop-item : goal.invariant-loop-item
invariant-loop-item l = length (flat_map aggregates_in_item l.items) ≤ 65535 → l.slot ≡ length (flat_map aggregates_in_item (take l.item-index l.items))
