use Rattle.utilities.proofs.Plans.{index_refused, index_planned}
use Rattle.utilities.proofs.structures.index_planned.Goals as goal

pub returns-in_ok-index_made-in-Ok-None-clause-change : goal.returns-in_ok-index_made-in-Ok-None-clause-change
returns-in_ok-index_made-in-Ok-None-clause-change g c = λ db e.
    index_planned db c.args.user.now c.args.rel.now c.args.name.now c.args.keys.now c.in_ok-index_made-in-Ok-None.field-0
    (cc (c.in-Ok-None.field-0-is, c.in-Ok-None.ensures.known db e)) c.in_ok-index_made-in-Ok-None.ensures

pub returns-in-Ok-Some-clause-cause : goal.returns-in-Ok-Some-clause-cause
returns-in-Ok-Some-clause-cause g c = record {
  later = c.in-Ok-Some.ensures.cause.later;
  caused = (
    c.in-Ok-Some.ensures.cause.caused,
    λ db e.
        index_refused db c.args.user.now c.args.rel.now c.args.name.now c.args.keys.now c.in-Ok-Some.cause (cc (c.in-Ok-Some.field-0-is, c.in-Ok-Some.ensures.known db e)),
  );
}
