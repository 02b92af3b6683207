use Rattle.calculus.specs.Replacement.{made_attr}
use Rattle.update_change.proofs.Mapped.{mapped_more}
use Rattle.update_change.proofs.new_relation.made_attrs.Goals as goal

pub loop-target-preserved : goal.loop-target-preserved
loop-target-preserved c =
    mapped_more made_attr c.args.targets.now _ _ _ _ _ c.loop-target-test.true c.target-item.is c.loop-target.invariant c.in_ok-push.ensures.items c.in_ok-made_attr.ensures
