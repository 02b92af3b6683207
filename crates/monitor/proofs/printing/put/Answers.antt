use Rattle.std.proofs.Common.{Err, ap, inl, inr}
use Rattle.monitor.proofs.printing.put.Goals as goal

pub returns-in-Ok-clause-counts : goal.returns-in-Ok-clause-counts
returns-in-Ok-clause-counts g c = record { later = c.in-Ok.ensures.faults; stalls_later = c.in-Ok.ensures.stalls; says = (c.in-Ok.ensures.no_fault, c.in-Ok.ensures.no_stall) }

pub returns-in-Err-Failed-clause-counts : goal.returns-in-Err-Failed-clause-counts
returns-in-Err-Failed-clause-counts g c = record { later = c.in-Err-Failed.ensures.faults; stalls_later = c.in-Err-Failed.ensures.stalls; says = inl (c.in-Err-Failed.ensures.failed (ap Err c.in-Err-Failed.field-0-is)) }

pub returns-in-Err-Stalled-clause-counts : goal.returns-in-Err-Stalled-clause-counts
returns-in-Err-Stalled-clause-counts g c = record { later = c.in-Err-Stalled.ensures.faults; stalls_later = c.in-Err-Stalled.ensures.stalls; says = inr (c.in-Err-Stalled.ensures.stalled (ap Err c.in-Err-Stalled.field-0-is)) }
