use Rattle.std.proofs.Common.{refl, ◌∙◌}
use Rattle.network_meaning.specs.MessageNetwork.{StageNumber.fourth}
use Rattle.net_core.proofs.Crashing.{left_by_stage}
use Rattle.net_core.proofs.Faulty.{apart_numbers, within_apart}
use Rattle.net_core.proofs.Placing.{step_done, fourth_part}
use Rattle.net_core.proofs.steps.step_fourth.Goals as goal

pub returns-clause-done : goal.returns-clause-done
returns-clause-done g c =
    step_done c.args.net.now.capacity fourth _ _ _ _ _ _ _ _ _ _ _ _ _ _ _ _ _ _ _ _ c.step_stage.result
    (rw (c.new-right_out.ensures.items, c.new-right_in.ensures.items) at c.step_stage.ensures.done) refl (fourth_part _ _ _ _) (fourth_part _ _ _ _)
    (λ user h. h.fourth) (λ user x h. record { first = h.first; second = h.second; third = h.third; fourth = x })
    (λ e h. record { first = h.first; second = h.second; third = h.third; fourth = e ∙ h.fourth })
    (λ n no e. apart_numbers _ _ _ n.fourth e refl) (λ n. within_apart _ c.step_stage.result (c.step_stage.ensures.done.ends (λ e. apart_numbers _ _ _ n.fourth e refl)).inside)

pub returns-clause-crash : goal.returns-clause-crash
returns-clause-crash g c = left_by_stage _ _ _ _ _ _ _ _ _ _ c.step_stage.result refl (λ user h. h.fourth) c.step_stage.ensures.crash
