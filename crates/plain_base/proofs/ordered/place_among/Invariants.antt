use Rattle.plain_base.proofs.PutInOrder.{IsAbove}
use Rattle.plain_base.proofs.ordered.place_among.Given as goal

abbrev pub invariant-loop-i : goal.invariant-loop-i
invariant-loop-i g l = IsAbove g.T.Placed.order l.item l.items l.i
