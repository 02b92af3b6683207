use Rattle.std.proofs.Common.{◌∙◌, sym}
use Rattle.aggregates.proofs.Held.{no_members, next_member}
use Rattle.aggregates.proofs.members.members.Goals as goal

pub loop-row-init : goal.loop-row-init
loop-row-init c = c.new-members.ensures.items ∙ sym (no_members c.args.agg.now)

pub loop-row-preserved : goal.loop-row-preserved
loop-row-preserved c =
    next_member c.args.agg.now c.args.rows.now c.loop-row.row-index c.row-item.result c.loop-row.members.items c.put_row.new.members.items
    c.loop-row-test.true c.row-item.is c.loop-row.invariant c.in_ok-put_row.ensures
