use Rattle.monitor.proofs.settling.store.Goals as goal

pub returns-in-Ok-clause-counts : goal.returns-in-Ok-clause-counts
returns-in-Ok-clause-counts g c = record { later = c.in-Ok.ensures.cause.later; says = c.in-Ok.ensures.cause.answered }

pub returns-in-Err-clause-counts : goal.returns-in-Err-clause-counts
returns-in-Err-clause-counts g c = record { later = c.in-Err.ensures.cause.later; says = c.in-Err.ensures.cause.failed }
