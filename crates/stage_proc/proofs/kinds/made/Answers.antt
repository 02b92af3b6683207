use Rattle.std.proofs.Common.{Some, ap, ◌∙◌, map}
use Rattle.std.proofs.lemmas.List.{take_all}
use Rattle.calculus.specs.Replacement.{made_attr}
use Rattle.stage_proc.proofs.Mapped.{mapped_more}
use Rattle.stage_proc.proofs.kinds.made.Goals as goal

pub loop-target-preserved : goal.loop-target-preserved
loop-target-preserved c =
    mapped_more (λ t. Some (made_attr t).kind) c.args.targets.now _ _ _ _ _ c.loop-target-test.true c.target-item.is c.loop-target.invariant c.in_ok-push.ensures.items (ap Some c.made_kind.ensures)

pub returns : goal.returns
returns c = c.loop-target.invariant ∙ ap (map (λ t. Some (made_attr t).kind)) (take_all c.loop-target.target-index c.args.targets.now c.loop-target-test.false)
