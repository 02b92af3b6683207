use Rattle.std.proofs.Common.{refl, ◌∙◌}
use Rattle.network_meaning.specs.MessageNetwork.{StageNumber.third}
use Rattle.net_core.proofs.Crashing.{left_by_stage}
use Rattle.net_core.proofs.Faulty.{apart_numbers, within_apart}
use Rattle.net_core.proofs.Placing.{step_done, third_part}
use Rattle.net_core.proofs.steps.step_third.Goals as goal

pub returns-clause-done : goal.returns-clause-done
returns-clause-done g c =
    step_done c.args.net.now.capacity third _ _ _ _ _ _ _ _ _ _ _ _ _ _ _ _ _ _ _ _ c.step_stage.result c.step_stage.ensures.done refl (third_part _ _ _ _) (third_part _ _ _ _)
    (λ user h. h.third) (λ user x h. record { first = h.first; second = h.second; third = x; fourth = h.fourth })
    (λ e h. record { first = h.first; second = h.second; third = e ∙ h.third; fourth = h.fourth })
    (λ n no e. apart_numbers _ _ _ n.third e refl) (λ n. within_apart _ c.step_stage.result (c.step_stage.ensures.done.ends (λ e. apart_numbers _ _ _ n.third e refl)).inside)

pub returns-clause-crash : goal.returns-clause-crash
returns-clause-crash g c = left_by_stage _ _ _ _ _ _ _ _ _ _ c.step_stage.result refl (λ user h. h.third) c.step_stage.ensures.crash
