use Rattle.std.proofs.Common.{◌∙◌, arith}
use Rattle.stage_proc.proofs.processing.process_and_hand_over.Goals as goal

pub returns-in-Ok-clause-cause : goal.returns-in-Ok-clause-cause
returns-in-Ok-clause-cause g c =
    let faults = c.hand_over.ensures.faults ∙ c.in-Ok.ensures.cause.caused in
    record { later = omega (arith, faults); caused = faults }

pub returns-in-Ok-clause-handed : goal.returns-in-Ok-clause-handed
returns-in-Ok-clause-handed g c = c.hand_over.ensures.forgotten
