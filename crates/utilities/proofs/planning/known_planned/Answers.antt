use Rattle.utilities.proofs.Deciding.{decided, no_rule, known_cause}
use Rattle.utilities.proofs.planning.known_planned.Goals as goal

pub returns-in_default-clause-change : goal.returns-in_default-clause-change
returns-in_default-clause-change g c = λ db e. c.schema_planned.ensures.change db (g.B.Base.own c.args.base.now db e)

pub returns-in_default-clause-by_schema : goal.returns-in_default-clause-by_schema
returns-in_default-clause-by_schema g c = λ s e.
    decided s c.args.user.now c.args.u.now (g.B.Base.schema c.args.base.now) _ _ _ c.schema_planned.result (no_rule c.args.u.now c.in_default.not-Rule) e (c.schema_planned.ensures.change s e) c.schema_planned.ensures.cause

pub returns-in_default-clause-cause : goal.returns-in_default-clause-cause
returns-in_default-clause-cause g c =
    known_cause c.args.user.now c.args.u.now (g.B.Base.schema c.args.base.now) (g.B.Base.database c.args.base.now) _ _ c.schema_planned.result (g.B.Base.own c.args.base.now) c.schema_planned.ensures.cause
