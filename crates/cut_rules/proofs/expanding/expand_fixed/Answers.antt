use Rattle.std.proofs.Common.{sym, ◌∙◌}
use Rattle.quel_meaning.specs.FitQueries.{kept_or_viewed}
use Rattle.cut_rules.proofs.Answered.{expand_failed, few_sources, too_many, few_enough, none_many, same_answer, same_lack}
use Rattle.cut_rules.proofs.Fitting.{few_listed}
use Rattle.cut_rules.proofs.Unrestrictedly.{unrestricted_query}
use Rattle.calculus.specs.Sizes.{expanded_variables}
use Rattle.cut_rules.proofs.expanding.expand_fixed.Goals as goal

pub returns-then-vars-gt-MOST_VARIABLES-clause-cause : goal.returns-then-vars-gt-MOST_VARIABLES-clause-cause
returns-then-vars-gt-MOST_VARIABLES-clause-cause g c = record {
  later = c.in_ok-vars.ensures.cause.later;
  caused = (
    c.in_ok-vars.ensures.cause.caused,
    λ db h.
        too_many c.in_ok-vars.vars (expanded_variables db c.args.query.now) c.capped.result
        (c.in_ok-vars.ensures.known db (g.B.Base.own c.args.base.now db h) (few_listed (kept_or_viewed db) db c.args.query.now (c.requires db h)) (few_sources db c.args.query.now (c.requires db h)))
        c.if-vars-gt-MOST_VARIABLES.true c.capped.ensures,
  );
}

pub expanded-requires-clause-few : goal.expanded-requires-clause-few
expanded-requires-clause-few g c = λ db h.
    let k = sym c.in_ok-vars.ensures.kept ∙ h in
    few_enough c.in_ok-vars.vars (expanded_variables db c.args.query.now)
    (c.in_ok-vars.ensures.known db (g.B.Base.own c.args.base.now db k) (few_listed (kept_or_viewed db) db c.args.query.now (c.requires db k)) (few_sources db c.args.query.now (c.requires db k))) c.if-vars-gt-MOST_VARIABLES.false

pub returns-in-Ok-clause-few : goal.returns-in-Ok-clause-few
returns-in-Ok-clause-few g c = λ db h.
    few_enough c.in_ok-vars.vars (expanded_variables db c.args.query.now)
    (c.in_ok-vars.ensures.known db (g.B.Base.own c.args.base.now db h) (few_listed (kept_or_viewed db) db c.args.query.now (c.requires db h)) (few_sources db c.args.query.now (c.requires db h))) c.if-vars-gt-MOST_VARIABLES.false

pub returns-in-Ok-clause-answer : goal.returns-in-Ok-clause-answer
returns-in-Ok-clause-answer g c = λ db h nests.
    same_answer db (g.B.Base.lawful c.args.base.now db (g.B.Base.own c.args.base.now db h)) c.args.query.now c.in-Ok.made nests (c.in-Ok.ensures.known db (c.in_ok-vars.ensures.kept ∙ h))

pub returns-in-Ok-clause-lacks : goal.returns-in-Ok-clause-lacks
returns-in-Ok-clause-lacks g c = λ db h nests.
    same_lack db (g.B.Base.lawful c.args.base.now db (g.B.Base.own c.args.base.now db h)) c.args.query.now c.in-Ok.made nests (c.in-Ok.ensures.known db (c.in_ok-vars.ensures.kept ∙ h))

pub returns-clause-cause : goal.returns-clause-cause
returns-clause-cause g c =
    expand_failed _ _ _ _ _ _ _ _ c.in-Err.ensures.cause c.unexpanded.ensures c.in_ok-vars.ensures.kept c.in_ok-vars.ensures.cause.caused
    (λ db h. unrestricted_query db (g.B.Base.lawful c.args.base.now db (g.B.Base.own c.args.base.now db h)) c.args.query.now (c.requires db h))

pub returns-then-vars-gt-MOST_VARIABLES-clause-many_by_schema : goal.returns-then-vars-gt-MOST_VARIABLES-clause-many_by_schema
returns-then-vars-gt-MOST_VARIABLES-clause-many_by_schema g c = λ s h fit.
    too_many c.in_ok-vars.vars (expanded_variables s c.args.query.now) c.capped.result
    (c.in_ok-vars.ensures.known s h (few_listed (kept_or_viewed s) s c.args.query.now fit) (few_sources s c.args.query.now fit))
    c.if-vars-gt-MOST_VARIABLES.true c.capped.ensures

pub returns-in-Ok-clause-few_by_schema : goal.returns-in-Ok-clause-few_by_schema
returns-in-Ok-clause-few_by_schema g c = λ s h fit.
    few_enough c.in_ok-vars.vars (expanded_variables s c.args.query.now)
    (c.in_ok-vars.ensures.known s h (few_listed (kept_or_viewed s) s c.args.query.now fit) (few_sources s c.args.query.now fit)) c.if-vars-gt-MOST_VARIABLES.false

pub returns-clause-many_by_schema : goal.returns-clause-many_by_schema
returns-clause-many_by_schema g c = λ s h fit. none_many s c.args.query.now c.in-Err.fault _ c.unexpanded.ensures
