use Rattle.std.proofs.Common.{sym, ◌∙◌, arith}
use Rattle.stage_proc.proofs.Keys.{key_decides, key_leaves, keys_leave}
use Rattle.stage_proc.proofs.order.rows_order.Goals as goal

pub returns-then-is_ne : goal.returns-then-is_ne
returns-then-is_ne c =
    key_decides _ c.args.keys.now c.loop-key.key-index c.args.left.now c.args.right.now c.key_order-order.result c.loop-key-test.true c.key_order-order.ensures (sym c.is_ne.ensures ∙ c.if-is_ne.true)
    ∙ sym c.loop-key.invariant

pub loop-key-preserved : goal.loop-key-preserved
loop-key-preserved c =
    c.loop-key.invariant
    ∙ key_leaves _ c.args.keys.now c.loop-key.key-index c.args.left.now c.args.right.now c.key_order-order.result c.loop-key-test.true c.key_order-order.ensures (sym c.is_ne.ensures ∙ c.if-is_ne.false)

pub returns : goal.returns
returns c = c.compare.ensures ∙ keys_leave c.args.keys.now c.loop-key.key-index c.args.left.now c.args.right.now (omega arith) ∙ sym c.loop-key.invariant
