use Rattle.std.proofs.Common.{arith}
use Rattle.std.proofs.lemmas.Result.{err_from_is_err_and}
use Rattle.tree_words.proofs.Items.{reading_failed, reading_went_on, reading_ended}
use Rattle.tree_words.proofs.lists.read_items.Goals as goal

pub returns-in_err-item : goal.returns-in_err-item
returns-in_err-item g c = let p = err_from_is_err_and c.from_residual.result c.from_residual.ensures.1 in rw (p.1, p.2) (reading_failed (g.T.Spelled.codec c.args.levels) c.args.count c.loop.counter _ _ _ c.read.new.reader _ _ (omega arith) c.loop.invariant c.in_err-item.ensures)

pub loop-preserved : goal.loop-preserved
loop-preserved g c = rw c.in_ok-push.ensures.items (reading_went_on (g.T.Spelled.codec c.args.levels) c.args.count c.loop.counter _ _ _ _ _ (omega arith) c.loop.invariant c.in_ok-item.ensures)

pub returns : goal.returns
returns g c = rw c.of.ensures (reading_ended (g.T.Spelled.codec c.args.levels) c.args.count c.loop.counter _ _ _ (omega arith) c.loop.invariant)
