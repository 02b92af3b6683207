use Rattle.utilities.proofs.Plans.{destroy_refused, destroy_planned}
use Rattle.utilities.proofs.destroying.destroyed.Goals as goal

pub returns-in_ok-all_gone-in-Ok-None-clause-change : goal.returns-in_ok-all_gone-in-Ok-None-clause-change
returns-in_ok-all_gone-in-Ok-None-clause-change g c = λ db e.
    destroy_planned db c.args.user.now c.args.rels.now c.in_ok-all_gone-in-Ok-None.field-0
    (cc (c.in-Ok-None.field-0-is, c.items.ensures, c.in-Ok-None.ensures.known db e)) c.in_ok-all_gone-in-Ok-None.ensures

pub returns-in-Ok-Some-clause-cause : goal.returns-in-Ok-Some-clause-cause
returns-in-Ok-Some-clause-cause g c = record {
  later = c.in-Ok-Some.ensures.cause.later;
  caused = (c.in-Ok-Some.ensures.cause.caused, λ db e. destroy_refused db c.args.user.now c.args.rels.now c.in-Ok-Some.cause (cc (c.in-Ok-Some.field-0-is, c.items.ensures, c.in-Ok-Some.ensures.known db e)));
}
