use Rattle.quel_resolve.proofs.trees.made.Goals as goal

pub returns-in-Ok-clause-cause : goal.returns-in-Ok-clause-cause
returns-in-Ok-clause-cause g c = record { later = c.in-Ok.ensures.cause.later; caused = c.asked.ensures.no_fault _ _ _ c.in-Ok.ensures.cause.caused }
