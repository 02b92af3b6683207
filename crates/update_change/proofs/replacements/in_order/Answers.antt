use Rattle.update_change.proofs.InOrder.{ordered-ascend, ordered-same}
use Rattle.update_change.proofs.replacements.in_order.Goals as goal

pub returns-clause-ascend : goal.returns-clause-ascend
returns-clause-ascend c = ordered-ascend _ _ c.sort_unstable.ensures.sorted c.dedup.ensures.filtered

pub returns-clause-same : goal.returns-clause-same
returns-clause-same c = ordered-same _ _ _ c.sort_unstable.ensures.permutation c.dedup.ensures.filtered
