use Rattle.std.proofs.Common.{◌∙◌, arith}
use Rattle.utilities.proofs.Plans.{permit_past, permit_refused, permit_made}
use Rattle.utilities.proofs.permits.permit_planned.Goals as goal

pub returns-in-None-clause-cause : goal.returns-in-None-clause-cause
returns-in-None-clause-cause g c = record {
  later = c.in_ok-standing.ensures.cause.later;
  caused = (c.in_ok-standing.ensures.cause.caused, λ db e. permit_past db c.args.user.now c.args.rel.now c.args.permit.now c.deref.result.now (c.deref.ensures.value ∙ c.in_ok-standing.ensures.known db e) c.in-None.ensures);
}

pub returns-in_ok-permit_made-in-Ok-None-clause-change : goal.returns-in_ok-permit_made-in-Ok-None-clause-change
returns-in_ok-permit_made-in-Ok-None-clause-change g c = λ db e.
    permit_made db c.args.user.now c.args.rel.now c.args.permit.now c.deref.result.now c.in-Some.number c.in_ok-permit_made-in-Ok-None.field-0
    (c.deref.ensures.value ∙ c.in_ok-standing.ensures.known db e) c.in-Some.ensures.0 c.in-Some.ensures.1
    (cc (c.in-Ok-None.field-0-is, c.in-Ok-None.ensures.known db (c.in_ok-standing.ensures.stays db e))) c.in_ok-permit_made-in-Ok-None.ensures

pub returns-in-Ok-Some-clause-cause : goal.returns-in-Ok-Some-clause-cause
returns-in-Ok-Some-clause-cause g c = record {
  later = omega (arith, c.in_ok-standing.ensures.cause.later, c.in-Ok-Some.ensures.cause.later);
  caused = (
    c.in-Ok-Some.ensures.cause.caused ∙ c.in_ok-standing.ensures.cause.caused,
    λ db e.
        permit_refused db c.args.user.now c.args.rel.now c.args.permit.now c.deref.result.now c.in-Ok-Some.cause
        (c.deref.ensures.value ∙ c.in_ok-standing.ensures.known db e) c.in-Some.ensures.0
        (cc (c.in-Ok-Some.field-0-is, c.in-Ok-Some.ensures.known db (c.in_ok-standing.ensures.stays db e))),
  );
}
