use Rattle.std.proofs.Common.{arith}
use Rattle.tree_words.proofs.Items.{written_one_more}
use Rattle.tree_words.proofs.lists.write_items.Goals as goal

pub loop-item-preserved : goal.loop-item-preserved
loop-item-preserved g c = written_one_more g.T.Spelled.codec c.args.items.now c.loop-item.item-index c.item-item.result c.item-item.result c.args.out.now.items c.loop-item.out.items c.write.new.out.items (omega arith) c.item-item.is c.loop-item.invariant c.in_ok-write.ensures
