use Rattle.std.proofs.Common.{◌∙◌, sym, arith}
use Rattle.base_trait.specs.Scans.{first_place}
use Rattle.calculus.specs.Stored.{rows_at}
use Rattle.update_change.proofs.Few.{ascends_scanned, too_many_after, few_after}
use Rattle.update_change.proofs.moved.rows_moved.Goals as goal

pub returns-then-are_too_many-clause-cause : goal.returns-then-are_too_many-clause-cause
returns-then-are_too_many-clause-cause g c = record {
  later = omega (arith, c.in_ok-change.ensures.cause.later, c.in_ok-left.ensures.cause.later);
  caused = (
    c.in_ok-left.ensures.cause.caused ∙ c.in_ok-change.ensures.cause.caused,
    c.in_ok-change.ensures.uncontended,
    λ db e new.
        too_many_after (rows_at db c.args.u.now.rel) c.in_ok-change.change.remove c.in_ok-change.change.add c.args.pairs.items c.in_ok-left.left
        (ascends_scanned (rows_at db c.args.u.now.rel) (g.B.Base.left c.args.base.now c.args.u.now.rel first_place) (g.B.Base.scanned c.args.base.now db c.args.u.now.rel e))
        (c.in_ok-change.ensures.removed db e) (c.in_ok-change.ensures.added db e) (c.in_ok-left.ensures.known db (c.in_ok-change.ensures.kept ∙ e))
        (sym c.are_too_many.ensures ∙ c.if-are_too_many.true),
  );
}

pub returns-clause-few : goal.returns-clause-few
returns-clause-few g c = λ db e.
    few_after (rows_at db c.args.u.now.rel) c.in_ok-change.change.remove c.in_ok-change.change.add c.args.pairs.items c.in_ok-left.left
    (ascends_scanned (rows_at db c.args.u.now.rel) (g.B.Base.left c.args.base.now c.args.u.now.rel first_place) (g.B.Base.scanned c.args.base.now db c.args.u.now.rel e))
    (c.in_ok-change.ensures.removed db e) (c.in_ok-change.ensures.added db e) (c.in_ok-left.ensures.known db (c.in_ok-change.ensures.kept ∙ e))
    (sym c.are_too_many.ensures ∙ c.if-are_too_many.false)
