use Rattle.net_core.proofs.Outcomes.{done_disorderly, done_finishes, done_keeps, done_wrote}
use Rattle.net_core.proofs.steps.net_step.Goals as goal

pub returns-clause-blocked : goal.returns-clause-blocked
returns-clause-blocked g c = c.step_of.ensures.done.blocked

pub returns-clause-steps : goal.returns-clause-steps
returns-clause-steps g c = c.step_of.ensures.done.steps

pub returns-clause-failed : goal.returns-clause-failed
returns-clause-failed g c = done_wrote _ _ _ _ _ _ _ _ _ _ _ _ _ _ _ c.step_of.ensures.done

pub returns-clause-unlawful : goal.returns-clause-unlawful
returns-clause-unlawful g c = c.step_of.ensures.done.unlawful

pub returns-clause-untouched : goal.returns-clause-untouched
returns-clause-untouched g c = c.step_of.ensures.done.untouched

pub returns-clause-cause : goal.returns-clause-cause
returns-clause-cause g c = c.step_of.ensures.done.cause

pub returns-clause-database : goal.returns-clause-database
returns-clause-database g c = c.step_of.ensures.done.database

pub returns-clause-later : goal.returns-clause-later
returns-clause-later g c = c.step_of.ensures.done.later

pub returns-clause-counts : goal.returns-clause-counts
returns-clause-counts g c = c.step_of.ensures.done.counts

pub returns-clause-spares : goal.returns-clause-spares
returns-clause-spares g c = c.step_of.ensures.done.spares

pub returns-clause-reads : goal.returns-clause-reads
returns-clause-reads g c = c.step_of.ensures.done.reads

pub returns-clause-within : goal.returns-clause-within
returns-clause-within g c = c.step_of.ensures.done.within

pub returns-clause-ends : goal.returns-clause-ends
returns-clause-ends g c = c.step_of.ensures.done.ends

pub returns-clause-serve : goal.returns-clause-serve
returns-clause-serve g c = c.step_of.ensures.done.serve

pub returns-clause-numbers : goal.returns-clause-numbers
returns-clause-numbers g c = c.step_of.ensures.done.numbered

pub returns-clause-equation : goal.returns-clause-equation
returns-clause-equation g c = done_keeps _ _ _ _ _ _ _ _ _ _ _ _ _ _ _ c.step_of.ensures.done

pub returns-clause-finishes : goal.returns-clause-finishes
returns-clause-finishes g c = done_finishes _ c.args.k _ _ _ _ _ _ _ _ _ _ _ _ _ c.step_of.ensures.done

pub returns-clause-lawful : goal.returns-clause-lawful
returns-clause-lawful g c = done_disorderly _ _ _ _ _ _ _ _ _ _ _ _ _ _ _ c.step_of.ensures.done

pub returns-clause-part : goal.returns-clause-part
returns-clause-part g c = c.step_of.ensures.done.failed

pub returns-clause-crash : goal.returns-clause-crash
returns-clause-crash g c = c.step_of.ensures.crash.crash

pub returns-clause-durable : goal.returns-clause-durable
returns-clause-durable g c = c.step_of.ensures.crash.durable

pub returns-clause-quiet : goal.returns-clause-quiet
returns-clause-quiet g c = c.step_of.ensures.crash.quiet

pub returns-clause-handed : goal.returns-clause-handed
returns-clause-handed g c = c.step_of.ensures.crash.handed
