use Rattle.std.proofs.Common.{◌≡◌, ℕ, Err, sym, subst}
use Rattle.calculus.specs.Replacement.{updated}
use Rattle.calculus.specs.Who.{Unrestricted}
use Rattle.stage_proc.specs.Stopping.{IsRefusing, StopsBy}
use Rattle.stage_proc.proofs.Outcomes.{RefusedBy, change_caused, change_refuses, change_stops, changed, refused_by, refuses_by, stopped_by}
use Rattle.stage_proc.proofs.planning.changed_by.Goals as goal

pub returns-clause-known : goal.returns-clause-known
returns-clause-known g c = λ db e new are.
    changed db c.args.u.now c.args.pairs.items are c.in_ok-change.ensures.uncontended (c.in_ok-change.ensures.few db e new) c.in_ok-change.change (c.in_ok-change.ensures.meaning db e new Unrestricted are.are)

pub returns-in_err-change-clause-known : goal.returns-in_err-change-clause-known
returns-in_err-change-clause-known g c = λ db e new are.
    let refuses : ℕ → Type 0 = λ number. updated db Unrestricted c.args.u.now ≡ Err number in
    refused_by _ refuses c.from_residual.result c.from_residual.ensures
    (λ stop is. subst (RefusedBy refuses) (sym is) (change_stops db c.args.u.now c.args.pairs.items _ _ _ c.in_err-change.field-0.0 e new are c.in_err-change.ensures.cause.caused))

pub returns-in_err-change-clause-refusing : goal.returns-in_err-change-clause-refusing
returns-in_err-change-clause-refusing g c =
    refuses_by c.from_residual.result c.from_residual.ensures (λ stop is. subst IsRefusing (sym is) (change_refuses c.in_err-change.field-0.0))

pub returns-in_err-change-clause-cause : goal.returns-in_err-change-clause-cause
returns-in_err-change-clause-cause g c =
    stopped_by (g.B.Base.database c.args.base.now) _ _ c.from_residual.result c.from_residual.ensures c.in_err-change.ensures.cause.later
    (λ stop is. subst (StopsBy (g.B.Base.database c.args.base.now) _ _) (sym is) (change_caused c.args.u.now c.args.pairs.items _ _ _ c.in_err-change.field-0.0 c.in_err-change.ensures.cause.caused))
