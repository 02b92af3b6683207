use Rattle.std.proofs.Common.{refl, arith}
use Rattle.base_trait.specs.Scans.{first_place}
use Rattle.calculus.specs.Stored.{rows_at}
use Rattle.update_change.proofs.Failing.{may_fail}
use Rattle.update_change.proofs.Few.{ascends_scanned, go_all, come_all}
use Rattle.update_change.proofs.moved.pairs_asked.Goals as goal

pub returns-in_ok-rows_asked-in-Ok-clause-removed : goal.returns-in_ok-rows_asked-in-Ok-clause-removed
returns-in_ok-rows_asked-in-Ok-clause-removed g c = λ db e.
    go_all (rows_at db c.args.u.now.rel) c.in-Ok.old c.in-Ok.new c.in_ok-rows_asked-in-Ok.field-0.remove c.args.pairs.items
    (ascends_scanned (rows_at db c.args.u.now.rel) (g.B.Base.left c.args.base.now c.args.u.now.rel first_place) (g.B.Base.scanned c.args.base.now db c.args.u.now.rel e))
    c.in-Ok.ensures.old c.in-Ok.ensures.new (c.in_ok-rows_asked-in-Ok.ensures.removed db e)

pub returns-in_ok-rows_asked-in-Ok-clause-added : goal.returns-in_ok-rows_asked-in-Ok-clause-added
returns-in_ok-rows_asked-in-Ok-clause-added g c = λ db e.
    come_all (rows_at db c.args.u.now.rel) c.in-Ok.new c.in_ok-rows_asked-in-Ok.field-0.add c.args.pairs.items
    (ascends_scanned (rows_at db c.args.u.now.rel) (g.B.Base.left c.args.base.now c.args.u.now.rel first_place) (g.B.Base.scanned c.args.base.now db c.args.u.now.rel e))
    c.in-Ok.ensures.new (c.in_ok-rows_asked-in-Ok.ensures.added db e)

pub returns-in-Err-clause-cause : goal.returns-in-Err-clause-cause
returns-in-Err-clause-cause g c = record {
  later = omega arith;
  caused = may_fail c.args.u.now c.args.pairs.items (g.B.Base.database c.args.base.now) (g.B.Base.faults c.args.base.now) (g.B.Base.faults c.args.base.now) c.in-Err.fault refl c.in-Err.ensures.cause;
}
