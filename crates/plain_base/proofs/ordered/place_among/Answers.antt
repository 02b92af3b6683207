use Rattle.std.proofs.Common.{sym, ap, ◌∙◌, arith}
use Rattle.std.proofs.lemmas.List.{get_or_default}
use Rattle.plain_base.proofs.PutInOrder.{put_before, put_in_place, put_behind}
use Rattle.plain_base.proofs.ordered.place_among.Goals as goal

pub returns-in-Less-clause-before : goal.returns-in-Less-clause-before
returns-in-Less-clause-before g c =
    put_before g.T.Placed.order c.args.item.now c.args.items.now c.loop-i.i c.loop-i-test.true c.loop-i.invariant
    (ap (g.T.Placed.order c.args.item.now) (sym (c.index-items-i.is ∙ get_or_default c.args.items.now c.loop-i.i _ _ c.loop-i-test.true))
    ∙ sym c.order.ensures ∙ c.in-Less.is)

pub returns-in-Equal-clause-at : goal.returns-in-Equal-clause-at
returns-in-Equal-clause-at g c =
    put_in_place g.T.Placed.order c.args.item.now c.args.items.now c.loop-i.i c.loop-i-test.true c.loop-i.invariant
    (ap (g.T.Placed.order c.args.item.now) (sym (c.index-items-i.is ∙ get_or_default c.args.items.now c.loop-i.i _ _ c.loop-i-test.true))
    ∙ sym c.order.ensures ∙ c.in-Equal.is)

pub returns-clause-before : goal.returns-clause-before
returns-clause-before g c = put_behind g.T.Placed.order c.args.item.now c.args.items.now (λ k d h. c.loop-i.invariant k d (omega (arith, h, c.loop-i-test.false)))
