use Rattle.std.proofs.Common.{◌∙◌, arith}
use Rattle.utilities.proofs.Plans.{rule_past, rule_refused, rule_made}
use Rattle.utilities.proofs.Deciding.{rule_past_decided, rule_refused_decided, rule_made_decided}
use Rattle.utilities.proofs.rules.rule_planned.Goals as goal

pub returns-in-None-clause-cause : goal.returns-in-None-clause-cause
returns-in-None-clause-cause g c = record {
  later = c.in_ok-standing.ensures.cause.later;
  caused = (
    c.in_ok-standing.ensures.cause.caused,
    λ db e.
        rule_past db c.args.user.now c.args.rel.now c.args.rule.now c.deref.result.now
        (c.deref.ensures.value ∙ c.in_ok-standing.ensures.known db (g.B.Base.own c.args.base.now db e)) c.in-None.ensures,
  );
}

pub returns-in-None-clause-by_schema : goal.returns-in-None-clause-by_schema
returns-in-None-clause-by_schema g c = λ s e.
    rule_past_decided s c.args.user.now c.args.rel.now c.args.rule.now c.deref.result.now (c.deref.ensures.value ∙ c.in_ok-standing.ensures.known s e) c.in-None.ensures

pub returns-in_ok-rule_made-in-Ok-None-clause-change : goal.returns-in_ok-rule_made-in-Ok-None-clause-change
returns-in_ok-rule_made-in-Ok-None-clause-change g c = λ db e.
    rule_made db c.args.user.now c.args.rel.now c.args.rule.now c.deref.result.now c.in-Some.number c.in_ok-rule_made-in-Ok-None.field-0
    (c.deref.ensures.value ∙ c.in_ok-standing.ensures.known db (g.B.Base.own c.args.base.now db e)) c.in-Some.ensures.0 c.in-Some.ensures.1
    (cc (c.in-Ok-None.field-0-is, c.in-Ok-None.ensures.known db (c.in_ok-standing.ensures.kept ∙ e))) c.in_ok-rule_made-in-Ok-None.ensures

pub returns-in_ok-rule_made-in-Ok-None-clause-by_schema : goal.returns-in_ok-rule_made-in-Ok-None-clause-by_schema
returns-in_ok-rule_made-in-Ok-None-clause-by_schema g c = λ s e.
    rule_made_decided s c.args.user.now c.args.rel.now c.args.rule.now c.deref.result.now c.in-Some.number c.in_ok-rule_made-in-Ok-None.field-0 c.in-Ok-None.field-0
    (c.deref.ensures.value ∙ c.in_ok-standing.ensures.known s e) c.in-Some.ensures.0 c.in-Some.ensures.1
    (c.in-Ok-None.ensures.by_schema s (c.in_ok-standing.ensures.stays s e)) c.in-Ok-None.field-0-is c.in_ok-rule_made-in-Ok-None.ensures

pub returns-in-Ok-Some-clause-cause : goal.returns-in-Ok-Some-clause-cause
returns-in-Ok-Some-clause-cause g c = record {
  later = omega (arith, c.in_ok-standing.ensures.cause.later, c.in-Ok-Some.ensures.cause.later);
  caused = (
    c.in-Ok-Some.ensures.cause.caused ∙ c.in_ok-standing.ensures.cause.caused,
    λ db e.
        rule_refused db c.args.user.now c.args.rel.now c.args.rule.now c.deref.result.now c.in-Ok-Some.cause
        (c.deref.ensures.value ∙ c.in_ok-standing.ensures.known db (g.B.Base.own c.args.base.now db e)) c.in-Some.ensures.0
        (cc (c.in-Ok-Some.field-0-is, c.in-Ok-Some.ensures.known db (c.in_ok-standing.ensures.kept ∙ e))),
  );
}

pub returns-in-Ok-Some-clause-by_schema : goal.returns-in-Ok-Some-clause-by_schema
returns-in-Ok-Some-clause-by_schema g c = λ s e.
    rule_refused_decided s c.args.user.now c.args.rel.now c.args.rule.now c.deref.result.now c.in-Ok-Some.cause c.in-Ok-Some.field-0
    (c.deref.ensures.value ∙ c.in_ok-standing.ensures.known s e) c.in-Some.ensures.0
    (c.in-Ok-Some.ensures.by_schema s (c.in_ok-standing.ensures.stays s e)) c.in-Ok-Some.field-0-is
