use Rattle.quel_meaning.specs.WrittenParts.{aggregates_in_item}
use Rattle.quel_check.proofs.InnerForms.{counted_more}
use Rattle.quel_check.proofs.slots.slot_behind_items.Goals as goal

pub loop-item-preserved : goal.loop-item-preserved
loop-item-preserved c =
    counted_more aggregates_in_item c.args.items.now c.loop-item.item-index c.item-item.result c.loop-item.slot c.slot_behind_item-slot.result c.loop-item-test.true c.item-item.is c.loop-item.invariant
    c.slot_behind_item-slot.ensures
