use Rattle.utilities.specs.Decided.{IsDecided}
use Rattle.utilities.proofs.Deciding.{by_first}
use Rattle.utilities.proofs.planning.plan.Goals as goal

pub returns-clause-by_schema : goal.returns-clause-by_schema
returns-clause-by_schema g c = λ fixes.
    by_first (g.B.Base.schema c.count.new.self) (g.B.Base.schema c.known_planned.new.base) (λ s. IsDecided s c.args.user.now c.args.u.now c.known_planned.result)
    (c.in_ok-_count.ensures.fixed fixes) c.known_planned.ensures.stays c.known_planned.ensures.by_schema
