use Rattle.calculus.specs.Who.{as_user}
use Rattle.view_expand.proofs.row_restriction.condition_anew.Goals as goal

pub returns-in-Ok-clause-found : goal.returns-in-Ok-clause-found
returns-in-Ok-clause-found g c = λ db h. c.keep_permits-kept.ensures.found db (as_user c.args.user.now) (c.requires.found db h) (c.in_ok-permits.ensures.known db (g.B.Base.own c.args.base.now db h))

pub returns-in-Err-clause-found : goal.returns-in-Err-clause-found
returns-in-Err-clause-found g c = λ db h. c.keep_permits-kept.ensures.found db (as_user c.args.user.now) (c.requires.found db h) (c.in_ok-permits.ensures.known db (g.B.Base.own c.args.base.now db h))
