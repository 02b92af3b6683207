use Rattle.std.proofs.Common.{◌∙◌, arith}
use Rattle.utilities.proofs.Plans.{rules_refused, rules_gone}
use Rattle.utilities.proofs.dropping.rules_gone.Goals as goal

pub returns-in_ok-rules_dropped-in-Ok-None-clause-change : goal.returns-in_ok-rules_dropped-in-Ok-None-clause-change
returns-in_ok-rules_dropped-in-Ok-None-clause-change g c = λ db e.
    rules_gone db c.args.user.now c.args.rel.now c.args.numbers.now c.in_ok-standing.standing.items c.in_ok-rules_dropped-in-Ok-None.field-0
    (c.in_ok-standing.ensures.known db e)
    (cc (c.in-Ok-None.field-0-is, c.deref.ensures.value, c.in-Ok-None.ensures.known db (c.in_ok-standing.ensures.stays db e))) c.in_ok-rules_dropped-in-Ok-None.ensures

pub returns-in-Ok-Some-clause-cause : goal.returns-in-Ok-Some-clause-cause
returns-in-Ok-Some-clause-cause g c = record {
  later = omega (arith, c.in_ok-standing.ensures.cause.later, c.in-Ok-Some.ensures.cause.later);
  caused = (
    c.in-Ok-Some.ensures.cause.caused ∙ c.in_ok-standing.ensures.cause.caused,
    λ db e.
        rules_refused db c.args.user.now c.args.rel.now c.args.numbers.now c.deref.result.now c.in-Ok-Some.cause
        (c.deref.ensures.value ∙ c.in_ok-standing.ensures.known db e)
        (cc (c.in-Ok-Some.field-0-is, c.in-Ok-Some.ensures.known db (c.in_ok-standing.ensures.stays db e))),
  );
}
