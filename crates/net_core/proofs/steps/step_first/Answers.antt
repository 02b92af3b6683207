use Rattle.std.proofs.Common.{refl, ◌∙◌}
use Rattle.network_meaning.specs.MessageNetwork.{StageNumber.first}
use Rattle.net_core.proofs.Crashing.{left_by_stage}
use Rattle.net_core.proofs.Placing.{step_done, first_part}
use Rattle.net_core.proofs.steps.step_first.Goals as goal

pub returns-clause-done : goal.returns-clause-done
returns-clause-done g c =
    step_done c.args.net.now.capacity first _ _ _ _ _ _ _ _ _ _ _ _ _ _ _ _ _ _ _ _ c.step_stage.result
    (rw (c.new-left_in.ensures.items, c.new-left_out.ensures.items) at c.step_stage.ensures.done) refl (first_part _ _ _ _) (first_part _ _ _ _)
    (λ user h. h.first) (λ user x h. record { first = x; second = h.second; third = h.third; fourth = h.fourth })
    (λ e h. record { first = e ∙ h.first; second = h.second; third = h.third; fourth = h.fourth })
    (λ n no. absurd (no refl)) (λ n. c.step_stage.ensures.done.within)

pub returns-clause-crash : goal.returns-clause-crash
returns-clause-crash g c = left_by_stage _ _ _ _ _ _ _ _ _ _ c.step_stage.result refl (λ user h. h.first) c.step_stage.ensures.crash
